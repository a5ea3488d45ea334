-- Laws of taking a reply: the two lists, the verdict, and what each case comes to. Assumes nothing.
use Prim.Native.Nat.{ℕ, ◌+◌, ◌-◌, ◌<◌}
use mathlib.Core.Path.{◌≡◌}
use mathlib.Core.List.{List, [], ◌∷◌, ◌++◌}
use mathlib.Core.Bool.{Bool, false}
use lib.Dec.{eqb}
use lib.ListN.{length, take, drop, set, length-append}
use lib.Seq.{take-suc-set}
use native.Mathlib.Omega.{arith}
use native.Mathlib.Numerals.{add-one}
use borrow.Author.Tests.{eq-eqb, ne_eqb}
use Rattle.slices.specs.Bytes.{big_endian}
use Rattle.operation.specs.declared.Operation.{Operation}
use Rattle.operation.specs.Operation.{Response, op_bytes, response_on, run_all}
use Rattle.conflict.specs.Conflict.{conflicts}
use Rattle.message.specs.declared.Item.{Item}
use Rattle.message.specs.Message.{reply_count, reply_item, commit_string, commit_bytes}
use Rattle.verify.proofs.Laws.{commit_tag-length}
use Rattle.replica.specs.declared.Replica.{Replica}
use Rattle.replica.specs.Places.{value_at, status_at}
use Rattle.replica.specs.Replica.{Step, over, stop}
use Rattle.client_reply_check.specs.ReplyChecks.{reply_no}
use Rattle.client_reply.specs.Reply.{chain_after, Sorted, sort_item, sort_to, is_aborted, last_response, last_seq, says_of, status, replied_replica, commit_message, reply_success, reply_step}

-- ---- the two lists
-- the first i + 1 of an array whose element at i is new
pub take_set_more : (l : List Operation) (i : ℕ) (e : Operation) → i < length l → take (i + 1) (set l i e) ≡ take i l ++ (e ∷ [])
take_set_more l i e h = rw add-one (take-suc-set l i e h)

-- item k put into its list
module _ (c number : ℕ) (statuses m : List ℕ) (k : ℕ) (i : Item) (e : i ≡ reply_item m k)
    (others own : List Operation) (f : record { others = others; own = own } ≡ sort_to c number statuses m k) where
  pub sort_own : i.author ≡ number → status_at c k statuses ≡ 1
      → record { others = others; own = own ++ (i.op ∷ []) } ≡ sort_to c number statuses m (k + 1)
  unfolding sort_to sort_item
  sort_own a d = rw (add-one k, ← f, ← e, eq-eqb _ _ a, eq-eqb _ _ d)

  pub sort_skip : i.author ≡ number → (status_at c k statuses ≡ 1 → ⊥)
      → record { others = others; own = own } ≡ sort_to c number statuses m (k + 1)
  unfolding sort_to sort_item
  sort_skip a d = rw (add-one k, ← f, ← e, eq-eqb _ _ a, ne_eqb _ _ d)

  pub sort_other : (i.author ≡ number → ⊥) → record { others = others ++ (i.op ∷ []); own = own } ≡ sort_to c number statuses m (k + 1)
  unfolding sort_to sort_item
  sort_other a = rw (add-one k, ← f, ← e, ne_eqb _ _ a)

-- ---- the verdict
module _ (r : Replica) (m : List ℕ) (n : ℕ) (e : n ≡ reply_count m) (s : Sorted) (f : s ≡ sort_to r.confirmed r.number r.statuses m (n - 1)) where
  pub aborted_is : conflicts r.cells s.others (s.own ++ (r.current ∷ [])) ≡ is_aborted r m
  unfolding is_aborted
  aborted_is = rw (f, e)

  pub response_is : response_on r.current (run_all s.own r.cells) ≡ last_response r m
  unfolding last_response
  response_is = rw (f, e)

-- ---- the call, by its two cases
module _ (r : Replica) (m out : List ℕ) where
  abbrev step : Step
  step = reply_step r m (length out)

  pub reply-stops : eqb (reply_no r m (length out)) 0 ≡ false → (stop r (reply_no r m (length out)) ≡ step.after) × (out ≡ over step.wrote out)
  unfolding reply_step
  reply-stops e = (rw e, rw e)

  pub reply_goes : reply_no r m (length out) ≡ 0 → (chain : List ℕ) (a : Bool) (x : Response) → chain ≡ chain_after r m → a ≡ is_aborted r m → x ≡ last_response r m
      → length (commit_message r chain (reply_count m) a) ≡ 80
      → (record { replica = replied_replica r chain (reply_count m) a; says = says_of a x (last_seq r m) } ≡ step.after)
      × (commit_message r chain (reply_count m) a ++ drop 80 out ≡ over step.wrote out)
  unfolding reply_step reply_success
  reply_goes e chain a x f g h l =
      let k : length (commit_message r (chain_after r m) (reply_count m) (is_aborted r m)) ≡ 80 = rw (f, g) at l in
      (rw (f, g, h, e), rw (e, k, f, g))

-- the commit is 80 bytes long
pub commit_message_length : (r : Replica) (chain : List ℕ) (n : ℕ) (a : Bool) → length (value_at r.confirmed n chain) ≡ 32 → length (commit_message r chain n a) ≡ 80
unfolding commit_message commit_bytes commit_string op_bytes big_endian
commit_message_length r chain n a h =
    simp length-append (omega (arith, h, commit_tag-length r.keys r.current r.number (r.confirmed + n) (value_at r.confirmed n chain) (status a)))
