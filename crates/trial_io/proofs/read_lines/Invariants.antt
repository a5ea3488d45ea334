use Rattle.std.proofs.Common.{◌≡◌, ◌+◌, ◌^◌, length, ◌-◌, cond}
use Rattle.trial_io.proofs.Going.{Going}
use Rattle.trial_io.proofs.read_lines.Given as goal

abbrev pub invariant-loop-going : goal.invariant-loop-going
invariant-loop-going g l =
    Going l.after.trial l.lent l.after.number l.after.held l.after.sent l.total l.brought l.going l.buf × (length l.out ≡ length l.fn.out)

abbrev pub decreases-loop-going : goal.decreases-loop-going
decreases-loop-going g l = (2 ^ 64 - l.total) + cond l.going 1 0
