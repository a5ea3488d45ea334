use Rattle.std.proofs.Common.{◌+◌, ◌≤◌, ◌<◌, ◌^◌, length, ◌≡◌, ℕ, ◌-◌}
use Rattle.trial_buffer.proofs.Laws.{Passed}
use Rattle.trial_buffer.proofs.whole_lines.Given as goal

abbrev pub invariant-loop-used : goal.invariant-loop-used
invariant-loop-used g l =
    Passed l.fn.start l.fn.lent l.fn.buf l.fn.n l.fn.first l.fn.before l.trial l.lent l.number l.at l.used l.sent × (length l.out ≡ length l.fn.out)

abbrev pub decreases-loop-used : goal.decreases-loop-used
decreases-loop-used g l = l.n - l.at + l.used
