use Prim.Native.Nat.{◌*◌}
use lib.ListN.{drop}
use mathlib.Core.List.{◌++◌}
use mathlib.Core.Path.{◌≡◌}
use Rattle.trial_core.specs.Trial.{keys_to}
use Rattle.trial_start.proofs.keys.Given as goal

abbrev pub invariant-loop-i : goal.invariant-loop-i
invariant-loop-i l = l.keys ≡ keys_to l.i ++ drop (l.i * 32) l.initial.keys
