-- A successful reply leaves a replica in range, with arrays as long as they were; the fields that stay. Assumes nothing.
use Prim.Native.Nat.{ℕ, zero, suc, ◌+◌, ◌-◌, ◌<◌, ◌≤◌}
use mathlib.Core.Path.{◌≡◌, refl, ap, ◌∙◌}
use mathlib.Core.Logic.{⊎_elim}
use mathlib.Core.List.{List}
use mathlib.Core.Bool.{Bool, true, false}
use lib.Dec.{leb, ltb}
use lib.ListN.{length}
use native.Mathlib.Omega.{arith}
use borrow.Author.Tests.{ltb-true, ltb-false}
use Rattle.operation.specs.Operation.{no_op}
use Rattle.message.specs.Message.{reply_count, reply_item}
use Rattle.replica.specs.declared.Replica.{Replica}
use Rattle.replica.specs.Places.{status_at, unused_values}
use Rattle.replica.proofs.Places.{unused_more, hold_unused, status-put, status_other, hold_statuses_length, hold_statuses_ok, hold_statuses_unused}
use Rattle.replica.specs.Replica.{Step, in_range, stop_step}
use Rattle.checks.proofs.Laws.{cond_cases, call_cases}
use Rattle.replica.proofs.Laws.{ranged, in_range_lem, Sized, Sound, stop_sound}
use Rattle.client_reply.specs.Reply.{chain_to, chain_after, is_aborted, held_status, larger, replied_replica, reply_success, reply_step}
use Rattle.client_reply_check.specs.ReplyChecks.{item_value, reply_no}
use Rattle.client_reply_check.proofs.Laws.{Formed, form_yes, reply_formed, last_passed, last_yes}
use Rattle.client_laws.proofs.Chain.{le-or-lt, held_item, new_item, item_taken}
use Rattle.client_reply.proofs.Chain.{item_value-length, chain_length_lem}

-- ---- the fields after a reply, whatever the chain, the number of items and the verdict
pub record Replied (r : Replica) (n : ℕ) (s : Replica) : Type 0 where
  pub number : s.number ≡ r.number
  pub keys : s.keys ≡ r.keys
  pub count : s.count ≡ r.count
  pub current : s.current ≡ no_op
  pub confirmed : s.confirmed ≡ r.confirmed
  pub held : s.held ≡ larger r.held n
  pub cells : s.cells ≡ r.cells
  pub halt : s.halt ≡ r.halt

module _ (r : Replica) (chain : List ℕ) (n : ℕ) (a : Bool) where
  pub replied : Replied r n (replied_replica r chain n a)
  unfolding replied_replica
  replied =
      record { number = refl; keys = refl; count = refl; current = refl; confirmed = refl; held = refl; cells = refl; halt = refl }

  pub replied_chain : (replied_replica r chain n a).chain ≡ chain
  unfolding replied_replica
  replied_chain = refl

  -- the status of the last item is new, the others stay
  pub status_new : n - 1 < length r.statuses → status_at r.confirmed (n - 1) (replied_replica r chain n a).statuses ≡ held_status a
  unfolding replied_replica
  status_new h = status-put r.confirmed (n - 1) (held_status a) r.statuses h

  pub status-kept : (j : ℕ) → (j ≡ n - 1 → ⊥) → status_at r.confirmed j (replied_replica r chain n a).statuses ≡ status_at r.confirmed j r.statuses
  unfolding replied_replica
  status-kept j h = status_other r.confirmed (n - 1) (held_status a) r.statuses j h

  pub statuses_length : length (replied_replica r chain n a).statuses ≡ length r.statuses
  unfolding replied_replica
  statuses_length = hold_statuses_length r.confirmed (n - 1) (held_status a) r.statuses

pub status_small : (a : Bool) → leb (held_status a) 2 ≡ true
status_small true = refl
status_small false = refl

-- ---- the larger of two
module _ (a b : ℕ) where
  pub larger_either : (P : ℕ → Type 0) → P a → P b → P (larger a b)
  larger_either P p q = cond_cases P (ltb a b) b a (λ e. q) (λ e. p)

  pub larger_left : a ≤ larger a b
  larger_left = cond_cases (λ (x : ℕ). a ≤ x) (ltb a b) b a (λ e. omega (arith, ltb-true a b e)) (λ e. omega arith)

  pub larger_right : b ≤ larger a b
  larger_right = cond_cases (λ (x : ℕ). b ≤ x) (ltb a b) b a (λ e. omega arith) (λ e. ltb-false a b e)

-- ---- the places past those of the first k items stay unused
pub unused_kept : (c held : ℕ) (m chain : List ℕ) → length chain ≡ 1056 → (k x : ℕ) → k ≤ 32 → k ≤ x
    → unused_values c x (chain_to c held m chain k) ≡ unused_values c x chain
unfolding chain_to
unused_kept c held m chain l zero x h g = refl
unused_kept c held m chain l (suc k) x h g =
    let to = chain_to c held m chain k in
    let v = item_value c k (reply_item m k) to in
    let e : length to ≡ 1056 = chain_length_lem c held m chain l k (omega arith) in
    let w : length v ≡ 32 = item_value-length c k (reply_item m k) to in
    let i = unused_kept c held m chain l k x (omega arith) (omega arith) in
    ⊎_elim
    (λ (q : held ≤ k). ap (unused_values c x) (new_item c held m chain l k q) ∙ hold_unused c (k + 1) v to w e (omega arith) x (omega arith) ∙ i)
    (λ (q : k < held). ap (unused_values c x) (held_item c held m chain l k q) ∙ i)
    (le-or-lt held k)

-- ---- a successful reply
module _ (r : Replica) (m : List ℕ) (room : ℕ) (e : reply_no r m room ≡ 0) (l : length r.chain ≡ 1056) where
  abbrev next : Replica
  next = replied_replica r (chain_after r m) (reply_count m) (is_aborted r m)

  formed : Formed r m room
  formed = form_yes r m room (reply_formed r m room e)

  some : 1 ≤ reply_count m
  some = (last_yes r m (last_passed r m room e)).some

  pub last_seq_lem : r.confirmed + reply_count m ≤ 1000000
  last_seq_lem =
      let s = some in
      let h : r.confirmed + (reply_count m - 1 + 1) ≤ 1000000 = (item_taken r m room e l (reply_count m - 1) (omega arith)).fine.seq in
      omega arith

  pub reply_in_range : in_range next ≡ true
  unfolding replied_replica chain_after
  reply_in_range =
      let g = ranged r formed.range in
      let n = reply_count m in
      let few : n ≤ 32 = formed.few in
      let s : 1 ≤ n = some in
      let h = larger r.held n in
      let hl : r.held ≤ h = larger_left r.held n in
      let hr : n ≤ h = larger_right r.held n in
      let v = held_status (is_aborted r m) in
      in_range_lem next (record {
        low = g.low;
        high = g.high;
        count = g.count;
        confirmed = g.confirmed;
        held = larger_either r.held n (λ (x : ℕ). x ≤ 32) g.held few;
        last = larger_either r.held n (λ (x : ℕ). r.confirmed + x ≤ 1000000) g.last last_seq_lem;
        mark = g.mark;
        current = refl;
        statuses = hold_statuses_ok r.confirmed (n - 1) v r.statuses g.statuses (status_small (is_aborted r m));
        unused = hold_statuses_unused r.confirmed (n - 1) v r.statuses r.held h hl (omega arith) g.unused;
        rest =
            unused_kept r.confirmed r.held m r.chain l n h few hr
            ∙ unused_more r.confirmed r.held h r.chain hl g.rest;
        temps = g.temps;
      })

  pub reply_sized : Sized r → Sized next
  unfolding chain_after
  reply_sized s =
      let p = replied r (chain_after r m) (reply_count m) (is_aborted r m) in
      record {
        keys = ap length p.keys ∙ s.keys;
        chain =
            ap length (replied_chain r (chain_after r m) (reply_count m) (is_aborted r m))
            ∙ chain_length_lem r.confirmed r.held m r.chain l (reply_count m) formed.few;
        statuses = statuses_length r (chain_after r m) (reply_count m) (is_aborted r m) ∙ s.statuses;
        cells = rw p.cells s.cells;
      }

-- ---- the call
module _ (r : Replica) (m : List ℕ) (room : ℕ) where
  pub reply_done : reply_no r m room ≡ 0 → reply_step r m room ≡ reply_success r m
  unfolding reply_step
  reply_done e = rw e

-- it keeps both, whatever it is given
pub reply-sound : (r : Replica) (m : List ℕ) (room : ℕ) → Sound r → Sound (reply_step r m room).after.replica
unfolding reply_step reply_success
reply-sound r m room s =
    let n = reply_no r m room in
    let l = s.sized.chain in
    call_cases (λ (x : Step). Sound x.after.replica) n (reply_success r m) (stop_step r n)
    (λ z. record { range = reply_in_range r m room z l; sized = reply_sized r m room z l s.sized })
    (stop_sound r n s)
