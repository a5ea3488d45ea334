use native.Mathlib.Omega.{arith}
use lib.ListN.{get_or}
use Prim.Native.Nat.{ℕ, ◌+◌, ◌-◌, ◌*◌, ◌%◌}
use mathlib.Core.Path.{◌≡◌, sym, ap, ◌∙◌}
use Rattle.trial_core.specs.Trial.{broadcast_move}
use Rattle.trial_core.specs.Moves.{lent_of}
use Rattle.trial_broadcast.proofs.Laws.{broadcast_goes, broadcast-stops}
use Rattle.trial_broadcast.proofs.deliver_broadcast.Goals as goal

pub returns-then-is_success : goal.returns-then-is_success
returns-then-is_success c =
    let a = c.args in
    let q = c.receive-q in
    let at : ℕ = get_or a.t.now.lines.next a.i 0 % 512 * 80 in
    let hk : at + 80 - at ≡ 80 = omega arith in
    λ replies invokes.
    broadcast_goes c.replica.result a.t.now.server a.t.now.lines a.i a.log.now replies invokes (at + 80 - at) hk q.ensures.0 c.told_said-said.ensures
    (sym c.is_success.ensures ∙ c.if-is_success.true)
    c.without_broadcast.ensures
    ∙ ap (λ x. broadcast_move x a.t.now.server a.t.now.lines a.i (lent_of a.log.now replies invokes)) c.replica.ensures

pub returns-else-is_success : goal.returns-else-is_success
returns-else-is_success c =
    let a = c.args in
    let q = c.receive-q in
    let at : ℕ = get_or a.t.now.lines.next a.i 0 % 512 * 80 in
    let hk : at + 80 - at ≡ 80 = omega arith in
    λ replies invokes.
    broadcast-stops c.replica.result a.t.now.server a.t.now.lines a.i a.log.now replies invokes (at + 80 - at) hk q.ensures.0 c.told_said-said.ensures
    (sym c.is_success.ensures ∙ c.if-is_success.false)
    ∙ ap (λ x. broadcast_move x a.t.now.server a.t.now.lines a.i (lent_of a.log.now replies invokes)) c.replica.ensures
