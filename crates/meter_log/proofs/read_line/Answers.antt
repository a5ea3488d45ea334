use mathlib.Core.Path.{ap, ◌∙◌}
use Rattle.meter_log.specs.Told.{reading_told, line_told}
use Rattle.meter_log.proofs.Told.{line_told_lem}
use Rattle.meter_log.proofs.read_line.Goals as goal

pub returns : goal.returns
returns c = ap reading_told c.read_in.ensures ∙ line_told_lem _ _ ∙ ap (line_told _) c.line.ensures
