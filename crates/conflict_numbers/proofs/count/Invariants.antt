use Prim.Native.Nat.{◌≤◌}
use mathlib.Core.Path.{◌≡◌}
use lib.ListN.{length, take}
use Rattle.conflict_numbers.specs.Numbers.{parts}
use Rattle.conflict_numbers.proofs.count.Given as goal

abbrev pub invariant-loop-o : goal.invariant-loop-o
invariant-loop-o g l = (l.n ≤ l.o-index) × (l.n ≡ length (parts (g.V.View.test l.view) (g.V.View.part l.view) (take l.o-index l.ops)))
