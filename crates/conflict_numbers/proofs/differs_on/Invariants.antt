use Prim.Native.Nat.{ℕ, ◌<◌}
use Rattle.operation.specs.Operation.{number_at, value, value_response}
use Rattle.conflict_cell.specs.Differs.{Differs}
use Rattle.conflict_numbers.specs.Numbers.{on_cell}
use Rattle.conflict_numbers.proofs.differs_on.Given as goal

abbrev pub invariant-loop-k : goal.invariant-loop-k
invariant-loop-k l = (i : ℕ) → i < l.k → Differs value value_response (number_at l.numbers i) (number_at l.numbers i) (on_cell i l.others) (on_cell i l.own) → ⊥
