use mathlib.Core.Path.{◌∙◌}
use Rattle.log_fields.proofs.Walk.{found_none, found_some}
use Rattle.log_fields.proofs.field_part.Goals as goal

pub returns-then-count_in-eq0 : goal.returns-then-count_in-eq0
returns-then-count_in-eq0 c = found_none _ _ _ _ c.line-s.ensures c.count_in.ensures c.if-count_in-eq0.true

pub returns : goal.returns
returns c = c.part_in.ensures ∙ found_some _ _ _ _ c.line-s.ensures c.count_in.ensures c.if-count_in-eq0.false
