use native.Mathlib.Nat.{add-sub_cancel_left}
use Rattle.verify.specs.Verify.{key_of}
use mathlib.Core.Path.{◌∙◌}
use Rattle.verify.proofs.key_state.Goals as goal

pub returns : goal.returns
unfolding key_of
returns c = c.keyed_of.ensures ∙ rw add-sub_cancel_left
