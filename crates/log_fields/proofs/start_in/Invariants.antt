use Rattle.log_fields.proofs.Walk.{Towards}
use Rattle.log_fields.proofs.start_in.Given as goal

abbrev pub invariant-loop-j : goal.invariant-loop-j
invariant-loop-j l = Towards l.s l.k l.a l._j
