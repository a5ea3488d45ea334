use mathlib.Core.Path.{sym, ◌∙◌}
use Rattle.client.specs.Receive.{receive_step}
use Rattle.client.proofs.receive.Goals as goal

pub returns-then-is_reply : goal.returns-then-is_reply
unfolding receive_step
returns-then-is_reply c = let t = sym c.is_reply.ensures ∙ c.if-is_reply.true in let e = c.reply.ensures in (e.0 ∙ rw t, e.1 ∙ rw t)

pub returns-else-is_reply : goal.returns-else-is_reply
unfolding receive_step
returns-else-is_reply c = let t = sym c.is_reply.ensures ∙ c.if-is_reply.false in (c.broadcast.ensures ∙ rw t, rw t)
