use Prim.Native.Nat.{◌≤◌}
use mathlib.Core.Path.{◌≡◌}
use lib.ListN.{length, take}
use Rattle.conflict_numbers.specs.Numbers.{parts}
use Rattle.conflict_numbers.proofs.gather.Given as goal

abbrev pub invariant-loop-e : goal.invariant-loop-e
invariant-loop-e g l = (l.count ≤ l.e-index) × (length l.new ≡ 32) × (take l.count l.new ≡ parts (g.V.View.test l.view) (g.V.View.part l.view) (take l.e-index l.ops))
