use mathlib.Core.Path.{◌∙◌}
use mir.Syntax.{w16}
use mir.Facts.{to_z-of_z}
use Rattle.operation.specs.Operation.{response_on}
use Rattle.operation_run.proofs.response_on.Goals as goal

pub returns : goal.returns
unfolding response_on
returns c =
    to_z-of_z {w = w16} {z = c.response_to.result} (record { sfits = c.response_to.type_inv }) ∙ c.response_to.ensures ∙ rw (c.number_at.ensures, c.number_at-2.ensures)
