use Rattle.std.proofs.Common.{◌≡◌, ◌+◌, length, ◌-◌}
use Rattle.meter_log_parts.proofs.Laws.{Passing}
use Rattle.meter_log_parts.proofs.tell_between.Given as goal

abbrev pub invariant-loop-used : goal.invariant-loop-used
invariant-loop-used g l =
    Passing l.fn.start l.buf l.from l.n l.state l.at l.used × (length l.out ≡ length l.fn.out)

abbrev pub decreases-loop-used : goal.decreases-loop-used
decreases-loop-used g l = (l.n + l.used) - l.at
