-- Whether one of the first k places from `at` on is marked.
use Rattle.conflict_marks.proofs.Stored.{Seen}
use Rattle.conflict_marks.proofs.any_marked.Given as goal

abbrev pub invariant-loop-k : goal.invariant-loop-k
invariant-loop-k l = Seen l.wide l.at l.k l.found
