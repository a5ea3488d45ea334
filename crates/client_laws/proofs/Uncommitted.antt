-- "A relay that lists my old entry at a new place should be stopped there" (document 02, Q-4): such a reply halts with 26. Assumes nothing.
use Prim.Native.Nat.{ℕ, zero, suc, ◌+◌, ◌-◌, ◌<◌}
use mathlib.Core.Path.{◌≡◌, refl, sym, ap, ◌∙◌}
use mathlib.Core.List.{List, [], ◌∷◌, ◌++◌}
use mathlib.Core.Bool.{true}
use native.Mathlib.Omega.{arith}
use Rattle.message.specs.Message.{reply_count, reply_item}
use Rattle.replica.specs.declared.Replica.{Replica}
use Rattle.replica.specs.Places.{status_at}
use Rattle.replica.specs.Replica.{Step, halt}
use Rattle.checks.specs.Checks.{first_no}
use Rattle.checks.proofs.Laws.{Yes, first_stays, first_append}
use Rattle.client_reply_check.specs.ReplyChecks.{listed_ok, is_uncommitted, item_proof_checks, item_checks, items_checks, reply_form_checks, last_checks, reply_no}
use Rattle.client_reply.specs.Reply.{reply_step}

-- a halt: only the halt mark changes, and nothing is written
abbrev pub halt_step : Replica → ℕ → Step
halt_step r n = record { after = halt r n; wrote = [] }

module _ (r : Replica) (m : List ℕ) (room : ℕ) where
  -- the first no of the form and of the first n items
  items : ℕ → ℕ
  items n = first_no (first_no 0 (reply_form_checks r m room)) (items_checks r m n)

  one_more : (j : ℕ) → items (suc j) ≡ first_no (items j) (item_checks r (reply_count m) j (reply_item m j))
  unfolding items items_checks
  one_more j = first_append (first_no 0 (reply_form_checks r m room)) (items_checks r m j) (item_checks r (reply_count m) j (reply_item m j))

  split : reply_no r m room ≡ first_no (items (reply_count m)) (last_checks r m)
  unfolding reply_no items
  split =
      first_append 0 (reply_form_checks r m room) (items_checks r m (reply_count m) ++ last_checks r m)
      ∙ first_append (first_no 0 (reply_form_checks r m room)) (items_checks r m (reply_count m)) (last_checks r m)

  -- 26 stays
  stays : (k d n : ℕ) → n ≡ d + k → items k ≡ 26 → items n ≡ 26
  stays k zero n e z = let p : n ≡ k = omega arith in ap items p ∙ z
  stays k (suc d) n e z =
      let p : n ≡ suc (d + k) = omega arith in
      ap items p ∙ one_more (d + k) ∙ rw (stays k d (d + k) refl z) (first_stays 26 (item_checks r (reply_count m) (d + k) (reply_item m (d + k))) refl)

  -- item k is such a one, and no check before its 26 has a no
  module _ (k : ℕ) (h : k < reply_count m) (before : first_no 0 (reply_form_checks r m room ++ items_checks r m k) ≡ 0)
      (y : Yes ((listed_ok r.confirmed k (reply_item m k), 21) ∷ item_proof_checks r k (reply_item m k)))
      (u : is_uncommitted r.number (status_at r.confirmed k r.statuses) (reply_count m) k (reply_item m k) ≡ true) where
    decides : items (suc k) ≡ 26
    unfolding items
    decides = one_more k ∙ rw (sym (first_append 0 (reply_form_checks r m room) (items_checks r m k)) ∙ before, y.0, y.1.0, y.1.1.0, u)

    pub uncommitted_26 : reply_no r m room ≡ 26
    uncommitted_26 =
        split ∙ rw (stays (suc k) (reply_count m - suc k) (reply_count m) (omega arith) decides) (first_stays 26 (last_checks r m) refl)

    pub uncommitted_halts : reply_step r m room ≡ halt_step r 26
    unfolding reply_step
    uncommitted_halts = rw uncommitted_26
