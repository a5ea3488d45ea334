use mathlib.Core.Path.{◌≡◌}
use Rattle.trial_core.specs.Trial.{logged}
use Rattle.trial_commit.proofs.append.Given as goal

abbrev pub invariant-loop-k : goal.invariant-loop-k
invariant-loop-k l = l.log ≡ logged l.initial.log l.passed l.k l.out
