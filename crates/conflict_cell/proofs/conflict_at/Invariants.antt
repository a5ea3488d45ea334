use Prim.Native.Nat.{ℕ, ◌<◌}
use mathlib.Core.Path.{◌≡◌}
use lib.ListN.{length}
use Rattle.operation.specs.Operation.{value, value_response}
use Rattle.conflict_marks.specs.Marks.{Has, Blank, marks_at}
use Rattle.conflict_cell.specs.Differs.{Differs}
use Rattle.conflict_cell.proofs.Reach.{alone, Held, Closed}
use Rattle.conflict_cell.proofs.conflict_at.Given as goal

abbrev pub invariant-loop-v : goal.invariant-loop-v
invariant-loop-v l = (y : ℕ) → y < l.v → Has (marks_at l.reach l.j) y → value_response l.w y ≡ l.expected

abbrev pub invariant-loop-j : goal.invariant-loop-j
invariant-loop-j l = (l.u ≡ alone l.start l.own l.j) × (length l.reach ≡ 33) × Closed l.start l.own l.reach l.j
    × Held l.start l.own (Differs value value_response l.start l.start l.others l.own) l.rest l.reach × Blank l.wide

abbrev pub invariant-search : goal.invariant-search
invariant-search l = (length l.reach ≡ 33) × Held l.start l.own (Differs value value_response l.start l.start l.others l.own) l.rest l.reach × Blank l.wide

abbrev pub decreases-search : goal.decreases-search
decreases-search l = length l.rest
