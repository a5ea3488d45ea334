-- The checks of a reply. Document 01, "The questions, in order" (`RE`); 26: document 02, Q-4.
use Rattle.std.specs.Prelude.{ℕ, zero, suc, ◌+◌, ◌-◌, List, [], ◌∷◌, ◌++◌, Bool, true, cond, not, ◌&&◌, ltb, leb, eqb}
use Rattle.slices.specs.Bytes.{same}
use Rattle.operation.specs.Operation.{op_ok, same_op}
use Rattle.message.specs.declared.Item.{Item}
use Rattle.message.specs.Layout.{max_seq, commit_length}
use Rattle.message.specs.Message.{is_reply, reply_count, reply_item}
use Rattle.message.specs.Content.{content_ok}
use Rattle.verify.specs.Verify.{item_tag_ok, link_value}
use Rattle.replica.specs.declared.Replica.{Replica}
use Rattle.replica.specs.Places.{value_at, status_at}
use Rattle.checks.specs.Checks.{every, first_no}
use Rattle.replica.specs.Replica.{ready_checks}

-- ---- the checks
-- "`RE` lists places c + 1, c + 2 and on": the sequence number of item k, counted from 0
abbrev pub seq_at : ℕ → ℕ → ℕ
seq_at c k = c + (k + 1)

-- 21: "entry, author allowed and place at most 1,000,000?"
unfoldable pub listed_ok : ℕ → ℕ → Item → Bool
listed_ok c k i = content_ok op_ok i.op i.author && leb (seq_at c k) max_seq

-- the chain value of item k, from the value before it in the chain
unfoldable pub item_value : ℕ → ℕ → Item → List ℕ → List ℕ
item_value c k i chain = link_value (value_at c k chain) i.op (seq_at c k) i.author

-- 23: "Chain the same where held?"
unfoldable pub item_chain_ok : ℕ → ℕ → List ℕ → ℕ → Item → Bool
item_chain_ok c held chain k i = cond (ltb k held) (same (item_value c k i chain) (value_at c (k + 1) chain)) true

-- 26: "if it is this van's own, isn't the last, and no status is held for its place". Of item k of n, where this status is held (0: none).
unfoldable pub is_uncommitted : ℕ → ℕ → ℕ → ℕ → Item → Bool
is_uncommitted number status n k i = every true (eqb i.author number ∷ ltb (k + 1) n ∷ eqb status 0 ∷ [])

-- "item by item": 21; 22 ("Tag right?"), 23; "after 23": 26. Of item k of n.
abbrev pub item_proof_checks : Replica → ℕ → Item → List (Bool × ℕ)
item_proof_checks r k i = (item_tag_ok r.keys i, 22) ∷ (item_chain_ok r.confirmed r.held r.chain k i, 23) ∷ []

abbrev pub item_rest_checks : Replica → ℕ → ℕ → Item → List (Bool × ℕ)
item_rest_checks r n k i = item_proof_checks r k i ++ ((not (is_uncommitted r.number (status_at r.confirmed k r.statuses) n k i), 26) ∷ [])

abbrev pub item_checks : Replica → ℕ → ℕ → Item → List (Bool × ℕ)
item_checks r n k i = (listed_ok r.confirmed k i, 21) ∷ item_rest_checks r n k i

-- those of the first k items
unfoldable pub items_checks : Replica → List ℕ → ℕ → List (Bool × ℕ)
items_checks r m zero = []
items_checks r m (suc k) = items_checks r m k ++ item_checks r (reply_count m) k (reply_item m k)

-- the last item
abbrev pub last_item : List ℕ → Item
last_item m = reply_item m (reply_count m - 1)

-- 24: "After all: n at least 1 and the last item the entry in hand with this author?"
unfoldable pub last_ok : Replica → List ℕ → Bool
last_ok r m = every true (leb 1 (reply_count m) ∷ same_op (last_item m).op r.current ∷ eqb (last_item m).author r.number ∷ [])

-- 8, 3, 20; and after them 7
abbrev pub mark_checks : Replica → List ℕ → List (Bool × ℕ)
mark_checks r m = ready_checks r ++ ((is_reply m, 20) ∷ [])

abbrev pub reply_form_checks : Replica → List ℕ → ℕ → List (Bool × ℕ)
reply_form_checks r m room = mark_checks r m ++ ((leb commit_length room, 7) ∷ [])

abbrev pub last_checks : Replica → List ℕ → List (Bool × ℕ)
last_checks r m = (last_ok r m, 24) ∷ []

-- all of them, in their order
unfoldable pub reply_no : Replica → List ℕ → ℕ → ℕ
reply_no r m room = first_no 0 (reply_form_checks r m room ++ (items_checks r m (reply_count m) ++ last_checks r m))
