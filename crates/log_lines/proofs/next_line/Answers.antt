use borrow.Author.Rules.{rules}
use Rattle.log_lines.proofs.Lines.{feed_within, next_none, next_some}
use Rattle.log_lines.proofs.next_line.Goals as goal

pub overflow_add-result : goal.overflow_add-result
overflow_add-result c = let f = feed_within _ _ c.find-e.ensures in search rules

pub returns-then-e-text : goal.returns-then-e-text
returns-then-e-text c = next_none _ _ c.find-e.ensures c.if-e-text.true

pub returns-else-e-text : goal.returns-else-e-text
returns-else-e-text c = next_some _ _ c.find-e.ensures c.if-e-text.false
