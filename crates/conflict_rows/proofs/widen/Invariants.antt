use Rattle.conflict_marks.specs.Marks.{Blank}
use Rattle.conflict_marks.proofs.Moved.{Widening}
use Rattle.conflict_rows.proofs.widen.Given as goal

abbrev pub invariant-loop-j : goal.invariant-loop-j
invariant-loop-j l = Blank l.wide × Widening l.j l.e l.initial.reach l.reach
