use mathlib.Core.Path.{◌∙◌}
use Rattle.verify.specs.Verify.{commit_tag}
use Rattle.verify.proofs.commit_tag_by.Goals as goal

pub returns : goal.returns
unfolding commit_tag
returns c keys e = c.tag_by.ensures _ e ∙ rw c.commit_string.ensures
