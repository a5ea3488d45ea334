use mathlib.Core.Path.{◌∙◌}
use Rattle.verify.specs.Verify.{item_tag_ok}
use Rattle.verify.proofs.item_tag_ok.Goals as goal

pub returns : goal.returns
unfolding item_tag_ok
returns c keys e = c.tag_is.ensures ∙ rw (c.invoke_tag_by.ensures keys e)
