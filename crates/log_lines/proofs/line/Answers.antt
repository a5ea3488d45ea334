use mathlib.Core.Path.{◌∙◌}
use borrow.Author.Rules.{rules}
use Rattle.log_lines.proofs.Lines.{feed_within, line_all, line_feed}
use Rattle.log_lines.proofs.line.Goals as goal

pub returns-then-e-text : goal.returns-then-e-text
returns-then-e-text c = line_all _ _ c.find-e.ensures c.if-e-text.true

pub slice_bounds-less_return-end : goal.slice_bounds-less_return-end
slice_bounds-less_return-end c = let f = feed_within _ _ c.find-e.ensures in search rules

pub returns : goal.returns
returns c = c.less_return.ensures ∙ line_feed _ _ c.find-e.ensures c.if-e-text.false
