use Rattle.conflict_marks.proofs.Stored.{Laying}
use Rattle.conflict_marks.proofs.lay_out.Given as goal

abbrev pub invariant-loop-v : goal.invariant-loop-v
invariant-loop-v l = Laying l.v l.marks l.wide
