use Rattle.conflict_marks.specs.Marks.{Joined}
use Rattle.conflict_marks.proofs.merge.Given as goal

abbrev pub invariant-loop-v : goal.invariant-loop-v
invariant-loop-v l = Joined l.v l.at l.wide l.initial.into l.into
