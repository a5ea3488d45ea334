use Prim.Native.Nat.{◌-◌}
use mathlib.Core.Path.{◌≡◌}
use lib.ListN.{length}
use Rattle.trial_lines.proofs.Laws.{So}
use Rattle.trial_lines.proofs.answers.Given as goal

abbrev pub invariant-loop-filled : goal.invariant-loop-filled
invariant-loop-filled l = (l.room ≡ length l.initial.out) × So l.initial.t l.number l.initial.lent l.text l.initial.out l.t l.lent l.out l.count l.at l.filled

abbrev pub decreases-loop-filled : goal.decreases-loop-filled
decreases-loop-filled l = length l.text - l.at
