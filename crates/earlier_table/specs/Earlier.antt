-- A client with the earlier table: document 01's, of before document 02's Q-2.
use Rattle.std.specs.Prelude.{ℕ, zero, suc, ◌≡◌, List, [], ◌∷◌, ◌++◌, Bool, not, ◌&&◌, ◌||◌, ◌⊎◌, leb, eqb}
use Rattle.operation.specs.declared.Operation.{Operation}
use Rattle.operation.specs.Operation.{max_count}
use Rattle.message.specs.declared.Item.{Item}
use Rattle.message.specs.declared.Commit.{Commit}
use Rattle.message.specs.Layout.{max_seq}
use Rattle.message.specs.Message.{reply_count, reply_item, commit_of}
use Rattle.message.specs.Content.{content_ok, status_ok}
use Rattle.replica.specs.declared.Replica.{Replica}
use Rattle.checks.specs.Checks.{first_no}
use Rattle.client_broadcast.specs.Broadcast.{seq_ok, form_checks, proof_checks}
use Rattle.client_reply_check.specs.ReplyChecks.{seq_at, item_proof_checks, reply_form_checks, last_checks}

-- the table of document 01: kinds 1 to 4, a read has amount 0, "and a zero byte"
unfoldable pub earlier_allowed : ℕ → ℕ → ℕ → ℕ → Bool
earlier_allowed kind cell amount last = leb 1 kind && leb kind 4 && leb cell 15 && (not (eqb kind 3) || eqb amount 0) && eqb last 0

unfoldable pub earlier_ok : Operation → Bool
earlier_ok e = leb 1 e.count && leb e.count max_count && earlier_allowed e.kind e.cell e.amount e.last

-- what the longer table added: "Kind 5 sets the cell …. Kind 6 … answers the temperature"
abbrev pub TempKind : Operation → Type 0
TempKind e = (e.kind ≡ 5) ⊎ (e.kind ≡ 6)

-- 21 with that table, of a `BR` and of item k of a `RE`
unfoldable pub earlier_commit_ok : Commit → Bool
earlier_commit_ok k = content_ok earlier_ok k.op k.author && status_ok k.status

unfoldable pub earlier_listed_ok : ℕ → ℕ → Item → Bool
earlier_listed_ok c k i = content_ok earlier_ok i.op i.author && leb (seq_at c k) max_seq

-- its checks of a `BR`, in their order: this client's (`broadcast_no`), with that check 21
unfoldable pub earlier_broadcast_no : Replica → List ℕ → ℕ
earlier_broadcast_no r m =
    first_no 0 (form_checks r m ++ ((earlier_commit_ok (commit_of m), 21) ∷ (seq_ok r (commit_of m), 25) ∷ proof_checks r (commit_of m)))

-- and of a `RE` (`reply_no`, without 26, which came later): those of its first k items, and all
unfoldable pub earlier_items_checks : Replica → List ℕ → ℕ → List (Bool × ℕ)
earlier_items_checks r m zero = []
earlier_items_checks r m (suc k) =
    earlier_items_checks r m k ++ ((earlier_listed_ok r.confirmed k (reply_item m k), 21) ∷ item_proof_checks r k (reply_item m k))

unfoldable pub earlier_reply_no : Replica → List ℕ → ℕ → ℕ
earlier_reply_no r m room = first_no 0 (reply_form_checks r m room ++ (earlier_items_checks r m (reply_count m) ++ last_checks r m))
