use Rattle.std.proofs.Common.{◌≡◌, ◌&&◌, drop}
use Rattle.slices.specs.Bytes.{all, is_zero}
use Rattle.slices.proofs.zero_from.Given as goal

abbrev pub invariant-loop-i : goal.invariant-loop-i
invariant-loop-i l = all is_zero (drop l.from l.s) ≡ (is_zero l.any && all is_zero (drop l.i l.s))
