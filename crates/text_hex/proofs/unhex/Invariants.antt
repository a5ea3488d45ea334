use mathlib.Core.Path.{◌≡◌}
use lib.ListN.{length}
use Rattle.text_hex.proofs.Pairs.{Took}
use Rattle.text_hex.proofs.unhex.Given as goal

abbrev pub invariant-loop-i : goal.invariant-loop-i
invariant-loop-i l = (length l.out ≡ length l.initial.out) × Took l.initial.out l.s l.i l.out
