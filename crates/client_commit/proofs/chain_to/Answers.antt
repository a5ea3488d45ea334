use mathlib.Core.Path.{refl, ◌∙◌}
use native.Mathlib.Numerals.{add-one}
use Rattle.client_reply.specs.Reply.{chain_to}
use Rattle.client_commit.proofs.chain_to.Goals as goal

pub loop-k-init : goal.loop-k-init
unfolding chain_to
loop-k-init c = refl

pub loop-k-preserved : goal.loop-k-preserved
unfolding chain_to
loop-k-preserved c = c.chain_item.ensures ∙ rw (add-one, c.loop-k.invariant, c.item_of.ensures)
