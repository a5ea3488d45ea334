use mathlib.Core.Path.{◌∙◌}
use Rattle.verify.specs.Verify.{commit_tag_ok}
use Rattle.verify.proofs.commit_tag_ok.Goals as goal

pub returns : goal.returns
unfolding commit_tag_ok
returns c = c.tag_is.ensures ∙ rw (c.commit_tag_by.ensures _ c.key_state-s.ensures)
