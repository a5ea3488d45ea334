use Prim.Native.Nat.{ℕ, ◌≤◌}
use mathlib.Core.Path.{◌≡◌, refl, ap, ◌∙◌}
use mathlib.Core.List.{List}
use lib.ListN.{length, get_or}
use native.Mathlib.Omega.{arith}
use borrow.Author.Rules.{rules}
use Rattle.replica.specs.Replica.{stop}
use Rattle.replica.specs.declared.Replica.{Replica}
use Rattle.replica.proofs.Places.{value-length}
use Rattle.replica.proofs.Stops.{stops_at, stops_some, goes_on}
use Rattle.client_reply_check.specs.ReplyChecks.{reply_no}
use Rattle.client_reply_check.proofs.Laws.{Formed, Last, form_yes, reply_formed, last_passed, last_yes}
use Rattle.client_reply.specs.Reply.{chain_after}
use Rattle.client_reply.proofs.Chain.{chain_length_lem}
use Rattle.client_reply.proofs.Laws.{reply-stops, reply_goes, commit_message_length}
use Rattle.client_respond.proofs.reply.Goals as goal

-- what a reply has whose checks have no no
passed : (r : Replica) (m : List ℕ) (room : ℕ) → reply_no r m room ≡ 0 → Formed r m room × Last r m
passed r m room e = (form_yes r m room (reply_formed r m room e), last_yes r m (last_passed r m room e))

pub returns-in-Err : goal.returns-in-Err
returns-in-Err c =
    let a = c.args in
    let e = c.reply_check.ensures.0 in
    let l = reply-stops a.r a.m.now a.out.now (stops_some _ _ e _ c.in-Err.is) in
    (c.stopped.ensures ∙ ap (stop a.r) (stops_at _ _ e _ c.in-Err.is) ∙ l.0, l.1)

pub bounds-m-2 : goal.bounds-m-2
bounds-m-2 c = let y = passed _ _ _ (goes_on _ _ c.reply_check.ensures.0 _ c.in-Ok.is) in omega (arith, y.0.long)

pub decide-v-requires : goal.decide-v-requires
decide-v-requires c =
    let y = passed _ _ _ (goes_on _ _ c.reply_check.ensures.0 _ c.in-Ok.is) in
    (refl, y.1.some, y.0.few, omega (arith, y.0.long))

pub chain_to-chain-requires : goal.chain_to-chain-requires
chain_to-chain-requires c =
    let y = passed _ _ _ (goes_on _ _ c.reply_check.ensures.0 _ c.in-Ok.is) in
    (y.0.few, y.0.early, omega (arith, y.0.long))

pub write_own_commit-requires : goal.write_own_commit-requires
write_own_commit-requires c =
    let y = passed _ _ _ (goes_on _ _ c.reply_check.ensures.0 _ c.in-Ok.is) in
    (y.0.few, y.0.early, c.reply_check.ensures.1 _ c.in-Ok.is, y.0.enough)

pub replied_replica-requires : goal.replied_replica-requires
replied_replica-requires c =
    let y = passed _ _ _ (goes_on _ _ c.reply_check.ensures.0 _ c.in-Ok.is) in
    (y.1.some, y.0.few)

pub overflow_add-r : goal.overflow_add-r
overflow_add-r c =
    let y = passed _ _ _ (goes_on _ _ c.reply_check.ensures.0 _ c.in-Ok.is) in
    record { fits = omega (arith, y.0.few, y.0.early) }

pub returns : goal.returns
unfolding chain_after
returns c =
    let a = c.args in
    let z = goes_on _ _ c.reply_check.ensures.0 _ c.in-Ok.is in
    let y = passed _ _ _ z in
    let v = c.decide-v in
    let t = c.chain_to-chain.result in
    let o : length a.r.chain ≡ 1056 = search rules in
    let n = get_or a.m.now 2 0 in
    let f : n ≤ 32 = y.0.few in
    let w =
    commit_message_length a.r t n v.result.aborted
    (value-length a.r.confirmed n t (rw c.chain_to-chain.ensures (chain_length_lem _ _ _ _ o _ f)) f)
    in
    let l = reply_goes a.r a.m.now a.out.now z t _ _ c.chain_to-chain.ensures v.ensures.0 v.ensures.1 w in
    (rw (c.replied_replica.ensures, c.says.ensures) l.0, c.write_own_commit.ensures ∙ l.1)
