use Prim.Native.Nat.{◌+◌, ◌*◌}
use mathlib.Core.Path.{◌≡◌}
use lib.ListN.{length}
use Rattle.text_hex.proofs.Pairs.{Wrote}
use Rattle.text_hex.proofs.hex.Given as goal

abbrev pub invariant-loop-x : goal.invariant-loop-x
invariant-loop-x l = (l.p ≡ l.at + 2 * l.x-index) × (length l.out ≡ length l.initial.out) × Wrote l.initial.out l.at l.s l.x-index l.out
