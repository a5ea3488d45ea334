use native.Mathlib.Omega.{arith}
use lib.ListN.{length, take, drop}
use Prim.Native.Nat.{ℕ, ◌+◌, ◌-◌, ◌*◌}
use mathlib.Core.List.{List}
use mathlib.Core.Path.{◌≡◌, sym, ap, ◌∙◌}
use Rattle.trial_moves.proofs.Invoking.{invoke_goes, invoke-stops}
use Rattle.trial_core.specs.Trial.{offer, invoke_move}
use borrow.Author.Rules.{rules}
use Rattle.trial_moves.proofs.invoke.Goals as goal

pub returns-then-is_success : goal.returns-then-is_success
returns-then-is_success c =
    let a = c.args in
    let q = c.invoke-q in
    let y : List ℕ = q.new.out in
    let k : ℕ = a.i * 43 + 43 - a.i * 43 in
    let hk : a.i * 43 + 43 - a.i * 43 ≡ 43 = omega arith in
    let ly : length y ≡ length (take k (drop (a.i * 43) a.lent.now.invokes)) = search rules in
    let z : length a.lent.now.invokes ≡ 344 = search rules in
    invoke_goes c.replica.result a.t.now.server a.t.now.lines a.i a.kind a.cell a.amount a.lent.now.log a.lent.now.replies a.lent.now.invokes c.requires z y k hk q.ensures.1 ly q.ensures.0
    (sym c.is_success.ensures ∙ c.if-is_success.true)
    (c.offer-o.ensures ∙ ap (λ x. offer a.t.now.server a.t.now.lines a.i x a.lent.now.replies) c.invoke_of-m.ensures)
    ∙ ap (λ x. invoke_move x a.t.now.server a.t.now.lines a.i a.kind a.cell a.amount a.lent.now) c.replica.ensures

pub returns-else-is_success : goal.returns-else-is_success
returns-else-is_success c =
    let a = c.args in
    let q = c.invoke-q in
    let y : List ℕ = q.new.out in
    let k : ℕ = a.i * 43 + 43 - a.i * 43 in
    let hk : a.i * 43 + 43 - a.i * 43 ≡ 43 = omega arith in
    let ly : length y ≡ length (take k (drop (a.i * 43) a.lent.now.invokes)) = search rules in
    let z : length a.lent.now.invokes ≡ 344 = search rules in
    invoke-stops c.replica.result a.t.now.server a.t.now.lines a.i a.kind a.cell a.amount a.lent.now.log a.lent.now.replies a.lent.now.invokes c.requires z y k hk q.ensures.1 ly q.ensures.0
    (sym c.is_success.ensures ∙ c.if-is_success.false)
    c.told_said.ensures
    ∙ ap (λ x. invoke_move x a.t.now.server a.t.now.lines a.i a.kind a.cell a.amount a.lent.now) c.replica.ensures
