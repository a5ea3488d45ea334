use mathlib.Core.Path.{◌∙◌}
use Rattle.verify.specs.Verify.{invoke_tag}
use Rattle.verify.proofs.invoke_tag_by.Goals as goal

pub returns : goal.returns
unfolding invoke_tag
returns c keys e = c.tag_by.ensures _ e ∙ rw c.invoke_string.ensures
