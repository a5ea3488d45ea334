use Prim.Native.Nat.{◌*◌, ◌≤◌}
use mathlib.Core.Path.{◌≡◌, refl, sym, ap, ◌∙◌}
use mathlib.Core.Bool.{false}
use lib.Dec.{eqb}
use lib.ListN.{length}
use native.Mathlib.Omega.{arith}
use borrow.Author.Rules.{rules}
use Rattle.message.proofs.Laws.{invoke_length_lem}
use Rattle.server.specs.declared.Server.{Server}
use Rattle.server.specs.Server.{refused, refusal_no, told, server_no}
use Rattle.server_check.proofs.Laws.{Placing, Storing, refusal_some, placing, storing, storing_long}
use Rattle.server_receive.proofs.Laws.{placed-length, digests-length, tags-length, stored-passed, stored-statuses, stops, places, passes, keeps}
use Rattle.server_receive.proofs.step.Goals as goal

-- in each answer: go, that no check has a no; g, what the checks imply

pub returns-in_err-check : goal.returns-in_err-check
returns-in_err-check c =
    let a = c.args in
    let n = c.in_err-check.ensures in
    let stopped : eqb (server_no a.s.now a.line a.m.now (length a.out.now)) 0 ≡ false = rw (sym n) (refusal_some _) in
    let l = stops a.s.now a.line a.m.now a.out.now stopped in
    let f : told c.from_residual.result ≡ refused (refusal_no c.in_err-check.field-0.0) = search rules in
    (l.0, f ∙ ap refused n ∙ l.1, l.2)

pub read_item-i-requires : goal.read_item-i-requires
read_item-i-requires c =
    omega (arith, invoke_length_lem c.args.m.now (sym c.is_invoke.ensures ∙ c.if-is_invoke.true))

pub overflow_sub-waiting : goal.overflow_sub-waiting
overflow_sub-waiting c =
    let a = c.args in
    let go = sym c.in_ok-check.ensures in
    let v = sym c.is_invoke.ensures ∙ c.if-is_invoke.true in
    let g : Placing a.s.now c.read_item-i.result (length a.out.now) = rw c.read_item-i.ensures (placing a.s.now a.line a.m.now (length a.out.now) go v) in
    g.order

pub place-requires : goal.place-requires
place-requires c =
    let a = c.args in
    let go = sym c.in_ok-check.ensures in
    let v = sym c.is_invoke.ensures ∙ c.if-is_invoke.true in
    let g : Placing a.s.now c.read_item-i.result (length a.out.now) = rw c.read_item-i.ensures (placing a.s.now a.line a.m.now (length a.out.now) go v) in
    (g.order, g.below, g.few, g.client.0, g.client.1)

pub write_reply-requires : goal.write_reply-requires
write_reply-requires c =
    let a = c.args in
    let go = sym c.in_ok-check.ensures in
    let v = sym c.is_invoke.ensures ∙ c.if-is_invoke.true in
    let g : Placing a.s.now c.read_item-i.result (length a.out.now) = rw c.read_item-i.ensures (placing a.s.now a.line a.m.now (length a.out.now) go v) in
    (omega (arith, g.few), omega (arith, g.enough))

pub commit_of-k-requires : goal.commit_of-k-requires
commit_of-k-requires c =
    let a = c.args in
    let v = sym c.is_invoke.ensures ∙ c.if-is_invoke.false in
    omega (arith, storing_long a.s.now a.line a.m.now (length a.out.now) (sym c.in_ok-check.ensures) v)

pub store-requires : goal.store-requires
store-requires c =
    let a = c.args in
    let go = sym c.in_ok-check.ensures in
    let v = sym c.is_invoke.ensures ∙ c.if-is_invoke.false in
    let g : Storing a.s.now c.commit_of-k.result (length a.out.now) = rw c.commit_of-k.ensures (storing a.s.now a.line a.m.now (length a.out.now) go v) in
    (g.low, g.first, g.slot)

pub write_broadcasts-requires : goal.write_broadcasts-requires
write_broadcasts-requires c =
    let a = c.args in
    let go = sym c.in_ok-check.ensures in
    let v = sym c.is_invoke.ensures ∙ c.if-is_invoke.false in
    let g : Storing a.s.now c.commit_of-k.result (length a.out.now) = rw c.commit_of-k.ensures (storing a.s.now a.line a.m.now (length a.out.now) go v) in
    let t = c.store.new.s in
    let low : t.passed ≤ 1000000 = (let q : t.passed ≡ a.s.now.passed = ap (λ (x : Server). x.passed) c.store.ensures ∙ stored-passed a.s.now c.commit_of-k.result in omega (arith, q, g.low)) in
    let enough : c.due-n.result * 80 ≤ length a.out.now = rw (c.due-n.ensures.0, c.store.ensures, stored-statuses a.s.now c.commit_of-k.result) g.enough in
    (low, c.due-n.ensures.1, enough)

pub pass_on-requires : goal.pass_on-requires
pass_on-requires c =
    let a = c.args in
    let go = sym c.in_ok-check.ensures in
    let v = sym c.is_invoke.ensures ∙ c.if-is_invoke.false in
    let g : Storing a.s.now c.commit_of-k.result (length a.out.now) = rw c.commit_of-k.ensures (storing a.s.now a.line a.m.now (length a.out.now) go v) in
    let t = c.store.new.s in
    let low : t.passed ≤ 1000000 = (let q : t.passed ≡ a.s.now.passed = ap (λ (x : Server). x.passed) c.store.ensures ∙ stored-passed a.s.now c.commit_of-k.result in omega (arith, q, g.low)) in
    (low, c.due-n.ensures.1)

pub returns-then-is_invoke : goal.returns-then-is_invoke
returns-then-is_invoke c =
    let a = c.args in
    let go = sym c.in_ok-check.ensures in
    let v = sym c.is_invoke.ensures ∙ c.if-is_invoke.true in
    let g : Placing a.s.now c.read_item-i.result (length a.out.now) = rw c.read_item-i.ensures (placing a.s.now a.line a.m.now (length a.out.now) go v) in
    let b = c.place.new.s in
    let z : length a.s.now.items ≡ 1312 = search rules in
    let h : length c.read_item-i.result.tag ≡ 32 = search rules in
    let size : length b.items ≡ 1312 = ap (λ (x : Server). length x.items) c.place.ensures ∙ placed-length a.s.now c.read_item-i.result h z g.few in
    places a.s.now a.line a.m.now a.out.now c.read_item-i.result b _ go v c.read_item-i.ensures c.place.ensures refl (omega (arith, size, g.few)) c.write_reply.ensures

pub returns-then-n-eq0 : goal.returns-then-n-eq0
returns-then-n-eq0 c =
    let a = c.args in
    let v = sym c.is_invoke.ensures ∙ c.if-is_invoke.false in
    keeps a.s.now a.line a.m.now a.out.now c.commit_of-k.result c.store.new.s c.due-n.result (sym c.in_ok-check.ensures) v c.commit_of-k.ensures c.store.ensures c.due-n.ensures.0 c.if-n-eq0.true

pub returns-else-n-eq0 : goal.returns-else-n-eq0
returns-else-n-eq0 c =
    let a = c.args in
    let go = sym c.in_ok-check.ensures in
    let v = sym c.is_invoke.ensures ∙ c.if-is_invoke.false in
    let g : Storing a.s.now c.commit_of-k.result (length a.out.now) = rw c.commit_of-k.ensures (storing a.s.now a.line a.m.now (length a.out.now) go v) in
    let k = c.commit_of-k.result in
    let t = c.store.new.s in
    let zd : length a.s.now.digests ≡ 1024 = search rules in
    let zt : length a.s.now.tags ≡ 1024 = search rules in
    let hd : length k.digest ≡ 32 = search rules in
    let ht : length k.tag ≡ 32 = search rules in
    let d : length t.digests ≡ 1024 = ap (λ (x : Server). length x.digests) c.store.ensures ∙ digests-length a.s.now k g.slot hd zd in
    let u : length t.tags ≡ 1024 = ap (λ (x : Server). length x.tags) c.store.ensures ∙ tags-length a.s.now k g.slot ht zt in
    passes a.s.now a.line a.m.now a.out.now k t c.due-n.result go v c.commit_of-k.ensures c.store.ensures c.due-n.ensures.0 d u c.due-n.ensures.1 c.pass_on.ensures c.write_broadcasts.ensures
