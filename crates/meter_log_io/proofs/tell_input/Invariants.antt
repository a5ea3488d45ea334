use Rattle.std.proofs.Common.{◌≡◌, ◌+◌, ◌-◌, ◌<◌, ◌^◌, length}
use Rattle.meter_log_parts.specs.Whole.{held_of}
use Rattle.meter_log_io.specs.Ran.{Reached}
use Rattle.meter_log_io.proofs.tell_input.Given as goal

abbrev pub invariant-loop-got : goal.invariant-loop-got
invariant-loop-got g l =
    (Reached l.state l.kept l.buf l.total)
    × (held_of l.kept < length l.buf)
    × (length l.buf ≡ 65536)
    × (length l.out ≡ length l.fn.out)
    × (l.total + 1 < 2 ^ 64)

abbrev pub decreases-loop-got : goal.decreases-loop-got
decreases-loop-got g l = 2 ^ 64 - l.total
