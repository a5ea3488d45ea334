-- The steps of the search: an own operation run on its whole row, and one of the others' run or left out.
use Prim.Native.Nat.{ℕ, ◌+◌, ◌<◌, ◌≤◌, suc}
use mathlib.Core.Path.{◌≡◌, sym}
use mathlib.Core.Bool.{Bool}
use mathlib.Core.List.{List, [], ◌∷◌}
use native.Mathlib.Omega.{arith}
use native.Mathlib.Numerals.{add-one}
use lib.ListN.{length, set}
use Rattle.operation.specs.declared.Operation.{Operation}
use Rattle.operation.specs.Operation.{value, value_response}
use Rattle.conflict_marks.specs.Marks.{Has, Moved, marks_at, Widened}
use Rattle.conflict_cell.proofs.Reach.{op_no, ran-suc, alone, Held, Closed, none_left, widens, found, closes, adds}

module _ (start : ℕ) (own : List Operation) where
  pub next : (j u : ℕ) → j < length own → u ≡ alone start own j → value (op_no own j) u ≡ alone start own (j + 1)
  next j u h e = rw (e, add-one j) (sym (ran-suc start own j h))

  -- The own operation j run on the whole set of values.
  pub own_step : {Goal : Type 0} {os : List Operation} {l : List (List Bool)} {into : List Bool} (j u : ℕ) → j < length own → j + 1 < length l → u ≡ alone start own j
      → Moved (op_no own j) (marks_at l j) (marks_at l (j + 1)) into
      → ((x : ℕ) → Has (marks_at l j) x → value_response (op_no own j) x ≡ value_response (op_no own j) u)
      → Closed start own l j → Held start own Goal os l
      → Closed start own (set l (j + 1) into) (j + 1) × Held start own Goal os (set l (j + 1) into)
  own_step {Goal} {os} {l} {into} j u h fits eu p same cl held =
      rw (add-one j) (
        closes start own l j into h fits' cl (λ x has. rw (← eu) (same x has, p.ran x has)),
        adds start own l j into h fits' held p.long (rw (add-one j) at p.kept) (rw (add-one j) at p.only),
      )
    where
      fits' : suc j < length l
      fits' = omega arith

  pub differs_at : {Goal : Type 0} {os : List Operation} {l : List (List Bool)} (j u v : ℕ) → Held start own Goal os l → j < length own → u ≡ alone start own j
      → Has (marks_at l j) v → (value_response (op_no own j) v ≡ value_response (op_no own j) u → ⊥) → Goal
  differs_at j u v held h eu has n = found start own j v held h has (λ e. n (rw (← eu) at e))

  whole : (l : List (List Bool)) (j : ℕ) → length own ≤ j → Closed start own l j → Closed start own l (length own)
  whole l j h cl i v lt has = cl i v (omega arith) has

  -- All of the others' operations are done.
  pub finished : {Goal : Type 0} {l : List (List Bool)} (j : ℕ) → length own ≤ j → Closed start own l j → Held start own Goal [] l → Goal → ⊥
  finished {l = l} j h cl held = none_left start own l (whole l j h cl) held

  -- One of the others' operations, run or left out.
  pub other_step : {Goal : Type 0} {o : Operation} {os : List Operation} {l l' : List (List Bool)} (j : ℕ) → length own ≤ j → Closed start own l j
      → Held start own Goal (o ∷ os) l → Widened (length own) o l l' → Held start own Goal os l'
  other_step {l = l} {l' = l'} j h cl held mv = widens start own l l' (whole l j h cl) held mv.each
