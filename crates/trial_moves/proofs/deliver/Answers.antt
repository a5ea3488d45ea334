use mathlib.Core.Path.{sym, ap, ◌∙◌}
use Rattle.trial_core.specs.Trial.{replica_of, deliver_move}
use Rattle.trial_moves.proofs.Delivering.{reply-short, head_reply, head_broadcast, head_none}
use Rattle.trial_moves.proofs.deliver.Goals as goal

pub deliver_reply-requires : goal.deliver_reply-requires
deliver_reply-requires c = let a = c.args in (c.requires, reply-short a.t.now.lines a.i (sym c.reply_first.ensures ∙ c.if-reply_first.true))

pub deliver_broadcast-requires : goal.deliver_broadcast-requires
deliver_broadcast-requires c = (c.requires, sym c.broadcast_first.ensures ∙ c.if-broadcast_first.true)

pub returns-then-reply_first : goal.returns-then-reply_first
returns-then-reply_first c =
    let a = c.args in
    let b = a.lent.now in
    c.deliver_reply.ensures
    ∙ head_reply (replica_of a.t.now a.i) a.t.now.server a.t.now.lines a.i b.log b.replies b.invokes (sym c.reply_first.ensures ∙ c.if-reply_first.true)

pub returns-then-broadcast_first : goal.returns-then-broadcast_first
returns-then-broadcast_first c =
    let a = c.args in
    let b = a.lent.now in
    c.deliver_broadcast.ensures b.replies b.invokes
    ∙ head_broadcast (replica_of a.t.now a.i) a.t.now.server a.t.now.lines a.i b.log b.replies b.invokes (sym c.reply_first.ensures ∙ c.if-reply_first.false) (sym c.broadcast_first.ensures ∙ c.if-broadcast_first.true)

pub returns-else-broadcast_first : goal.returns-else-broadcast_first
returns-else-broadcast_first c =
    let a = c.args in
    let b = a.lent.now in
    head_none c.replica.result a.t.now.server a.t.now.lines a.i b.log b.replies b.invokes (sym c.reply_first.ensures ∙ c.if-reply_first.false) (sym c.broadcast_first.ensures ∙ c.if-broadcast_first.false)
    ∙ ap (λ x. deliver_move x a.t.now.server a.t.now.lines a.i b) c.replica.ensures
