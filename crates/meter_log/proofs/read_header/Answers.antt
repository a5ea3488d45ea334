use mathlib.Core.Path.{ap, ◌∙◌}
use Rattle.meter_log.specs.Told.{header_told, first_told}
use Rattle.meter_log.proofs.Told.{header_told_lem}
use Rattle.meter_log.proofs.read_header.Goals as goal

pub returns : goal.returns
returns c = ap header_told c.header_in.ensures ∙ header_told_lem _ ∙ ap first_told c.line.ensures
