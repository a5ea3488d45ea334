use borrow.Author.Rules.{rules}
use Rattle.log_quotes.proofs.Laws.{start_none, start-quoted, start_plain}
use Rattle.log_quotes.proofs.field_end.Goals as goal

pub returns-then-a-s : goal.returns-then-a-s
returns-then-a-s c = start_none _ _ c.if-a-s.true

pub returns-then-s-a-eq34 : goal.returns-then-s-a-eq34
returns-then-s-a-eq34 c = start-quoted _ _ (search rules) c.if-s-a-eq34.true c.quoted_end.ensures

pub returns : goal.returns
returns c = start_plain _ _ (search rules) c.if-s-a-eq34.false c.plain_end.ensures
