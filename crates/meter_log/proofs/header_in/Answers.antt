use mathlib.Core.Path.{sym, ◌∙◌}
use Rattle.log_columns.proofs.Laws.{head_sound}
use Rattle.meter_log.proofs.Laws.{head_yes, head_no}
use Rattle.meter_log.proofs.header_in.Goals as goal

pub columns_in-requires : goal.columns_in-requires
columns_in-requires c = head_sound _ (sym c.header_ok.ensures ∙ c.if-header_ok.true)

pub returns-then-header_ok : goal.returns-then-header_ok
returns-then-header_ok c = head_yes _ _ (sym c.header_ok.ensures ∙ c.if-header_ok.true) c.columns_in.ensures

pub returns-else-header_ok : goal.returns-else-header_ok
returns-else-header_ok c = head_no _ (sym c.header_ok.ensures ∙ c.if-header_ok.false)
