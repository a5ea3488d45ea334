-- A conflict on numbers, one for each cell, is one among the operations on one cell. Assumes nothing.
use Prim.Native.Nat.{ℕ, ◌<◌}
use mathlib.Core.Path.{◌≡◌, refl, sym, ap, ◌∙◌}
use mathlib.Core.Bool.{Bool, true}
use mathlib.Core.List.{List}
use mathlib.Core.Logic.{◌↔◌}
use native.Mathlib.Decide.{dec_lt}
use native.Mathlib.Omega.{arith}
use lib.ListN.{get_or, set, length, length-set, get_or-eq_default}
use lib.Seq.{get_or-set_same, get_or-set_other}
use borrow.Author.Tests.{eqb-true, eqb-false, eq-eqb}
use Rattle.operation.specs.declared.Operation.{Operation}
use Rattle.operation.specs.Operation.{number_at, value, value_response}
use Rattle.conflict_cell.specs.Differs.{Differs}
use Rattle.conflict_numbers.specs.Numbers.{changed, answered, is_on, on_cell}
use Rattle.conflict_numbers.proofs.Parts.{Views, by_parts}

-- One cell's number after an operation on it, and what is answered by it.
set_it : (s : List ℕ) (c k : ℕ) (x : ℕ → ℕ) → c ≡ k → k < length s → get_or (set s c (x (get_or s c 0))) k 0 ≡ x (get_or s k 0)
set_it s c k x p h = rw (p, get_or-set_same s k (x (get_or s k 0)) 0 h)

told_it : (s u : List ℕ) (c k : ℕ) (x : ℕ → ℕ) → c ≡ k → x (get_or s c 0) ≡ x (get_or u c 0) → x (get_or s k 0) ≡ x (get_or u k 0)
told_it s u c k x p h = rw p at h

-- Each cell is a way to look at the numbers.
module _ (n : ℕ) where
  abbrev Place : Type 0
  Place = (k : ℕ) × (k < n)

  abbrev At : Place → List ℕ → ℕ
  At (k, h) s = number_at s k

  abbrev test_at : Place → Operation → Bool
  test_at (k, h) = is_on k

  cell_seen : (e : Operation) (s u : List ℕ) → length s ≡ n → length u ≡ n → (answered e s ≡ answered e u → ⊥) → (p : Place) × (test_at p e ≡ true) × (value_response e (At p s) ≡ value_response e (At p u) → ⊥)
  unfolding answered
  cell_seen e s u ls lu f = go (dec_lt e.cell n)
    where
      go : Dec (e.cell < n) → (p : Place) × (test_at p e ≡ true) × (value_response e (At p s) ≡ value_response e (At p u) → ⊥)
      go (yes h) = ((e.cell, h), eq-eqb e.cell e.cell refl, f)
      go (no h) =
          absurd (f (ap (value_response e) (get_or-eq_default s 0 {n = e.cell} (omega arith) ∙ sym (get_or-eq_default u 0 {n = e.cell} (omega arith)))))

  cells : Views changed answered value value_response (λ s. length s ≡ n) test_at (λ p e. e) At
  unfolding changed answered
  cells = record {
    good = λ e s h. length-set s e.cell (value e (number_at s e.cell)) ∙ h;
    ran = λ (k, l) e s h q. set_it s e.cell k (value e) (eqb-true e.cell k q) (omega arith);
    kept = λ (k, l) e s q. get_or-set_other s e.cell k (value e (number_at s e.cell)) 0 (λ p. eqb-false e.cell k q (sym p));
    told = λ (k, l) e s u q p. told_it s u e.cell k (value_response e) (eqb-true e.cell k q) p;
    seen = cell_seen;
  }

pub by_cells : (n : ℕ) (l : List ℕ) (os ws : List Operation) → length l ≡ n
    → Differs changed answered l l os ws ↔ ((k : ℕ) × (k < n) × Differs value value_response (number_at l k) (number_at l k) (on_cell k os) (on_cell k ws))
by_cells n l os ws h =
    let p = by_parts (cells n) l l os ws h h in
    ((λ d. let ((k, i), r) = p.0 d in (k, i, r)), λ (k, i, r). p.1 ((k, i), r))
