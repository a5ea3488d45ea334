use mathlib.Core.Path.{◌≡◌}
use Rattle.trial_core.specs.Trial.{is_full}
use Rattle.trial_room.proofs.full.Given as goal

abbrev pub invariant-loop-n : goal.invariant-loop-n
invariant-loop-n l = l.full ≡ is_full l.next l.passed l.n-index
