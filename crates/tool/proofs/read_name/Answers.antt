use Rattle.std.proofs.Common.{sym, ◌∙◌}
use Rattle.tool.proofs.read_name.Goals as goal

pub returns-in-Some : goal.returns-in-Some
returns-in-Some g c = λ h. (_, _, _, c.run-done.ensures, sym c.tell.ensures ∙ h)
