use native.Mathlib.Omega.{arith}
use lib.ListN.{get_or}
use Prim.Native.Nat.{ℕ, ◌+◌, ◌-◌, ◌*◌}
use mathlib.Core.Path.{◌≡◌, sym, ap, ◌∙◌}
use Rattle.trial_core.specs.Trial.{reply_move}
use Rattle.trial_moves.proofs.Delivering.{reply_goes, reply-stops}
use Rattle.trial_moves.proofs.deliver_reply.Goals as goal

pub returns-then-is_success : goal.returns-then-is_success
returns-then-is_success c =
    let a = c.args in
    let q = c.receive-q in
    let n : ℕ = get_or a.t.now.lines.lengths a.i 0 in
    let hk : a.i * 1315 + n - a.i * 1315 ≡ n = omega arith in
    reply_goes c.replica.result a.t.now.server a.t.now.lines a.i a.lent.now.log a.lent.now.replies a.lent.now.invokes (a.i * 1315 + n - a.i * 1315) hk q.ensures.0 c.told_said-said.ensures
    (sym c.is_success.ensures ∙ c.if-is_success.true)
    q.ensures.1
    c.commit.ensures.0
    c.commit.ensures.1
    c.without_reply.ensures
    ∙ ap (λ x. reply_move x a.t.now.server a.t.now.lines a.i a.lent.now) c.replica.ensures

pub returns-else-is_success : goal.returns-else-is_success
returns-else-is_success c =
    let a = c.args in
    let q = c.receive-q in
    let n : ℕ = get_or a.t.now.lines.lengths a.i 0 in
    let hk : a.i * 1315 + n - a.i * 1315 ≡ n = omega arith in
    reply-stops c.replica.result a.t.now.server a.t.now.lines a.i a.lent.now.log a.lent.now.replies a.lent.now.invokes (a.i * 1315 + n - a.i * 1315) hk q.ensures.0 c.told_said-said.ensures
    (sym c.is_success.ensures ∙ c.if-is_success.false)
    ∙ ap (λ x. reply_move x a.t.now.server a.t.now.lines a.i a.lent.now) c.replica.ensures
