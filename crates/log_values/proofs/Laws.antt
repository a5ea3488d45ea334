-- Laws of the walk over the fields of a line that looks for the three values. Assumes nothing.
use Prim.Native.Nat.{ℕ, ◌+◌, ◌-◌}
use mathlib.Core.Path.{◌≡◌, sym, ◌∙◌}
use mathlib.Core.List.{List, []}
use mathlib.Core.Bool.{true, false, cond}
use native.Mathlib.Omega.{arith}
use lib.ListN.{length, take, drop, get_or-eq_default}
use lib.Dec.{eqb, ltb}
use borrow.Author.Tests.{eqb-true, eqb-false, ltb-true, ltb-false, lt-ltb, le-ltb}
use Rattle.std.specs.Prelude.{Option, Some, None}
use Rattle.text.specs.Text.{within}
use Rattle.text.proofs.Laws.{either}
use Rattle.log_quotes.specs.declared.FieldEnd.{FieldEnd}
use Rattle.log_quotes.specs.Quotes.{start, fields, EndsAt}
use Rattle.log_number.specs.Number.{number, temperature}
use Rattle.log_number.proofs.Laws.{number_empty_none, temp_empty_none}
use Rattle.log_columns.specs.declared.Columns.{Columns}
use Rattle.log_fields.proofs.Walk.{Counted, counted_none, counted_not, counted-sound, counted_next, counted_here}
use Rattle.log_values.specs.Values.{under, values_of}

-- ---- a walk that looks for field k: what g makes of it, once field k is past; none before
abbrev pub so_far : (List ℕ → Option ℕ) → List ℕ → ℕ → ℕ → Option ℕ
so_far g l k n = cond (ltb k n) (g (under l k)) None

pub far_none : (g : List ℕ → Option ℕ) (l : List ℕ) (k : ℕ) → None ≡ so_far g l k 0
far_none g l k = rw (le-ltb k 0 (omega arith))

pub far_more :
    (g : List ℕ → Option ℕ) (l : List ℕ) (k n : ℕ) (f : List ℕ) (v w : Option ℕ) →
    under l n ≡ f →
    v ≡ so_far g l k n →
    w ≡ cond (eqb n k) (g f) v →
    w ≡ so_far g l k (n + 1)
far_more g l k n f v w h e q =
    either (eqb n k)
    (λ t.
    let m : n ≡ k = eqb-true n k t in
    let u : under l k ≡ f = rw m at h in
    rw (lt-ltb k (n + 1) (omega (arith, m)), u) (q ∙ rw t))
    (λ t.
    let d : w ≡ v = q ∙ rw t in
    either (ltb k n)
    (λ z. rw (lt-ltb k (n + 1) (omega (arith, ltb-true k n z))) (d ∙ e ∙ rw z))
    (λ z. rw (le-ltb k (n + 1) (omega (arith, ltb-false k n z, eqb-false n k t))) (d ∙ e ∙ rw z)))

-- past all fields it is what g makes of field k, there or not
pub far_all : (g : List ℕ → Option ℕ) (l : List ℕ) (k n : ℕ) (v : Option ℕ) → g [] ≡ None → n ≡ length (fields l) → v ≡ so_far g l k n → v ≡ g (under l k)
far_all g l k n v z h e =
    either (ltb k n)
    (λ t. e ∙ rw t)
    (λ t. let u : under l k ≡ [] = get_or-eq_default (fields l) [] (omega (arith, h, ltb-false k n t)) in e ∙ rw (t, u) (sym z))

-- a number and a temperature, where a field holds one
abbrev num : List ℕ → Option ℕ
num f = within 999 (number f)

abbrev temp : List ℕ → Option ℕ
temp f = within 255 (temperature f)

-- what the walk's loop keeps
pub record Walked (c : Columns) (l : List ℕ) (a n : ℕ) (x y z : Option ℕ) : Type 0 where
  pub counted : Counted l a n
  pub cell : x ≡ so_far num l c.cell n
  pub flow : y ≡ so_far num l c.flow n
  pub last : z ≡ so_far temp l c.temp n

pub walked_none : (c : Columns) (l : List ℕ) → Walked c l 0 0 None None None
walked_none c l = record { counted = counted_none l; cell = far_none num l c.cell; flow = far_none num l c.flow; last = far_none temp l c.temp }

module _ {c : Columns} {l : List ℕ} {a n : ℕ} {x y z : Option ℕ} (w : Walked c l a n x y z) {r : FieldEnd} (f : EndsAt start l a r) where
  pub walked_unsound : r.sound ≡ false → None ≡ values_of c l
  unfolding values_of
  walked_unsound h = let e = counted_not f w.counted h in rw e

  module _
      (p q s : Option ℕ)
      (i : p ≡ cond (eqb n c.cell) (num (take (r.end - a) (drop a l))) x)
      (j : q ≡ cond (eqb n c.flow) (num (take (r.end - a) (drop a l))) y)
      (k : s ≡ cond (eqb n c.temp) (temp (take (r.end - a) (drop a l))) z)
      (h : r.sound ≡ true) where
    at_cell : p ≡ so_far num l c.cell (n + 1)
    at_cell = far_more num l c.cell n _ x p (counted_here f w.counted) w.cell i

    at_flow : q ≡ so_far num l c.flow (n + 1)
    at_flow = far_more num l c.flow n _ y q (counted_here f w.counted) w.flow j

    at_temp : s ≡ so_far temp l c.temp (n + 1)
    at_temp = far_more temp l c.temp n _ z s (counted_here f w.counted) w.last k

    pub walked_last : r.end ≡ length l → Some (record { fields = n + 1; cell = p; flow = q; last = s }) ≡ values_of c l
    unfolding values_of
    walked_last g =
        let m = counted-sound f w.counted h g in
        let x = far_all num l c.cell (n + 1) p number_empty_none m.1 at_cell in
        let y = far_all num l c.flow (n + 1) q number_empty_none m.1 at_flow in
        let t = far_all temp l c.temp (n + 1) s temp_empty_none m.1 at_temp in
        rw (m.0, m.1, x, y, t)

    pub walked_next : (r.end ≡ length l → ⊥) → Walked c l (r.end + 1) (n + 1) p q s
    walked_next g = record { counted = counted_next f w.counted h g; cell = at_cell; flow = at_flow; last = at_temp }
