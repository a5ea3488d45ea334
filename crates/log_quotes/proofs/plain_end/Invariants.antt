use Rattle.log_quotes.specs.Quotes.{plain}
use Rattle.log_quotes.proofs.Laws.{Way}
use Rattle.log_quotes.proofs.plain_end.Given as goal

abbrev pub invariant-loop-i : goal.invariant-loop-i
invariant-loop-i l = Way plain l.s l.a l.i plain
