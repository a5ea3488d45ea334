use Rattle.std.proofs.Common.{◌≡◌, bit_or, drop}
use Rattle.tag_compare.specs.Difference.{different_bits}
use Rattle.tag_compare.proofs.different_bits.Given as goal

abbrev pub invariant-loop-i : goal.invariant-loop-i
invariant-loop-i l = different_bits l.s l.t ≡ bit_or l.bits (different_bits (drop l.i l.s) (drop l.i l.t))
