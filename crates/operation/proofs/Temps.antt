-- Running keeps the numbers of cells and temperatures, and the range of the temperatures. Assumes nothing.
use Prim.Native.Nat.{ℕ, zero, suc}
use mathlib.Core.Path.{◌≡◌, refl, ◌∙◌}
use mathlib.Core.Bool.{Bool, true, false, cond, not, ◌&&◌, ◌||◌}
use mathlib.Core.List.{List, [], ◌∷◌}
use lib.Dec.{leb, eqb}
use lib.ListN.{length, get_or}
use Rattle.slices.specs.Bytes.{all}
use Rattle.slices.proofs.Laws.{and_yes, all_set, all_replicate}
use Rattle.operation.specs.declared.Operation.{Operation}
use Rattle.operation.specs.declared.Cells.{Cells}
use Rattle.operation.specs.Operation.{max_count, signed, temp_ok, last_byte_ok, allowed, op_ok, zero_cells, temps_ok, number_at, temp, after, effect}
use Rattle.operation.proofs.Laws.{values_length, temps_length}

-- sixteen of each
abbrev pub Sixteen : Cells → Type 0
Sixteen s = (length s.values ≡ 16) × (length s.temps ≡ 16)

pub effect_sixteen : (b : Bool) (e : Operation) (s : Cells) → Sixteen s → Sixteen (effect b e s)
unfolding effect
effect_sixteen true e s (v, t) = (values_length e s ∙ v, temps_length e s ∙ t)
effect_sixteen false e s h = h

-- each temperature from −40 to 85
temp_ok-zero : temp_ok 0 ≡ true
unfolding temp_ok signed
temp_ok-zero = refl

pub zero_temps : temps_ok zero_cells ≡ true
zero_temps = all_replicate temp_ok 16 0 temp_ok-zero

all-at : (p : ℕ → Bool) (s : List ℕ) (i : ℕ) → all p s ≡ true → p 0 ≡ true → p (get_or s i 0) ≡ true
unfolding all
all-at p [] i e z = z
all-at p (x ∷ s) zero e z = (and_yes (p x) (all p s) e).0
all-at p (x ∷ s) (suc i) e z = all-at p s i (and_yes (p x) (all p s) e).1 z

-- the last byte of an allowed operation of kind 5 is a temperature
last_temp : (e : Operation) → op_ok e ≡ true → eqb e.kind 5 ≡ true → temp_ok e.last ≡ true
unfolding op_ok allowed last_byte_ok
last_temp e ok five =
    let a = (and_yes (leb 1 e.count && leb e.count max_count) (allowed e.kind e.cell e.amount e.last) ok).1 in
    let b : cond (eqb e.kind 5) (temp_ok e.last) (eqb e.last 0) ≡ true
    = (and_yes (leb 1 e.kind && leb e.kind 6 && leb e.cell 15 && (not (eqb e.kind 3) && not (eqb e.kind 6) || eqb e.amount 0)) _ a).1 in
    rw five at b

temp_ok_lem : (e : Operation) (t : ℕ) → op_ok e ≡ true → temp_ok t ≡ true → temp_ok (temp e t) ≡ true
unfolding temp
temp_ok_lem e t ok h = go (eqb e.kind 5) refl
  where
    go : (b : Bool) → eqb e.kind 5 ≡ b → temp_ok (cond b e.last t) ≡ true
    go true q = last_temp e ok q
    go false q = h

pub effect_temps : (b : Bool) (e : Operation) (s : Cells) → op_ok e ≡ true → temps_ok s ≡ true → temps_ok (effect b e s) ≡ true
unfolding effect after
effect_temps true e s ok h =
    all_set temp_ok s.temps e.cell (temp e (number_at s.temps e.cell)) h (temp_ok_lem e (number_at s.temps e.cell) ok (all-at temp_ok s.temps e.cell h temp_ok-zero))
effect_temps false e s ok h = h
