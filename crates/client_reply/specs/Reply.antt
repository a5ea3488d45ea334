-- What a reply does once its checks are passed. Document 01, "What a van does" (`RE`).
use Rattle.std.specs.Prelude.{ℕ, zero, suc, ◌+◌, ◌-◌, List, [], ◌∷◌, ◌++◌, Bool, cond, ltb, eqb}
use Rattle.operation.specs.declared.Operation.{Operation}
use Rattle.operation.specs.Operation.{Response, no_op, response_on, run_all}
use Rattle.conflict.specs.Conflict.{conflicts}
use Rattle.message.specs.declared.Item.{Item}
use Rattle.message.specs.Message.{reply_count, reply_item, commit_bytes}
use Rattle.verify.specs.Verify.{commit_tag}
use Rattle.replica.specs.declared.Replica.{Replica}
use Rattle.replica.specs.Outcome.{Told, responded, aborted}
use Rattle.replica.specs.Places.{value_at, status_at, hold_value, hold_status}
use Rattle.replica.specs.Replica.{Step, stop_step}
use Rattle.client_reply_check.specs.ReplyChecks.{item_value, reply_no}

-- ---- the chain: "Chain values not held are worked out and held"
unfoldable pub chain_item : ℕ → ℕ → ℕ → Item → List ℕ → List ℕ
chain_item c held k i chain = cond (ltb k held) chain (hold_value c (k + 1) (item_value c k i chain) chain)

-- with the first k items
unfoldable pub chain_to : ℕ → ℕ → List ℕ → List ℕ → ℕ → List ℕ
chain_to c held m chain zero = chain
chain_to c held m chain (suc k) = chain_item c held k (reply_item m k) (chain_to c held m chain k)

unfoldable pub chain_after : Replica → List ℕ → List ℕ
chain_after r m = chain_to r.confirmed r.held m r.chain (reply_count m)

-- ---- the two lists
pub record Sorted : Type 0 where
  pub others : List Operation
  pub own : List Operation

-- "Others' entries form one list. Own earlier entries with status done form the second …. Own earlier entries without a done
-- status are passed over." (Since 26, document 02's Q-4, those are the aborted ones.)
unfoldable pub sort_item : ℕ → ℕ → List ℕ → ℕ → Item → Sorted → Sorted
sort_item c number statuses k i s =
    cond (eqb i.author number)
    (cond (eqb (status_at c k statuses) 1) (record { others = s.others; own = s.own ++ (i.op ∷ []) }) s)
    (record { others = s.others ++ (i.op ∷ []); own = s.own })

-- the first k items
unfoldable pub sort_to : ℕ → ℕ → List ℕ → List ℕ → ℕ → Sorted
sort_to c number statuses m zero = record { others = []; own = [] }
sort_to c number statuses m (suc k) = sort_item c number statuses k (reply_item m k) (sort_to c number statuses m k)

-- the items before the last
abbrev pub earlier : Replica → List ℕ → Sorted
earlier r m = sort_to r.confirmed r.number r.statuses m (reply_count m - 1)

-- ---- the response
-- "with the entry in hand at its end. If the first list doesn't conflict with the second on the confirmed cells, …; else "aside""
unfoldable pub is_aborted : Replica → List ℕ → Bool
is_aborted r m = conflicts r.cells (earlier r m).others ((earlier r m).own ++ (r.current ∷ []))

-- "the second is run on a copy and the last answer is given"
unfoldable pub last_response : Replica → List ℕ → Response
last_response r m = response_on r.current (run_all (earlier r m).own r.cells)

abbrev pub last_seq : Replica → List ℕ → ℕ
last_seq r m = r.confirmed + reply_count m

abbrev pub says_of : Bool → Response → ℕ → Told
says_of a x seq = cond a (aborted seq) (responded seq x)

-- a status in a message: 1 success, 0 aborted; and as the replica holds it: 1 success, 2 aborted (0 is none)
abbrev pub status : Bool → ℕ
status a = cond a 0 1

abbrev pub held_status : Bool → ℕ
held_status a = cond a 2 1

abbrev pub larger : ℕ → ℕ → ℕ
larger a b = cond (ltb a b) b a

-- ---- "Either way `CO` is written and no entry is in hand": by the new chain, the number of items and whether aborted
unfoldable pub replied_replica : Replica → List ℕ → ℕ → Bool → Replica
replied_replica r chain n a =
    record {
      number = r.number;
      keys = r.keys;
      count = r.count;
      current = no_op;
      confirmed = r.confirmed;
      held = larger r.held n;
      chain = chain;
      statuses = hold_status r.confirmed (n - 1) (held_status a) r.statuses;
      cells = r.cells;
      halt = r.halt;
    }

unfoldable pub commit_message : Replica → List ℕ → ℕ → Bool → List ℕ
commit_message r chain n a =
    commit_bytes (record {
      op = r.current;
      author = r.number;
      seq = r.confirmed + n;
      digest = value_at r.confirmed n chain;
      status = status a;
      tag = commit_tag r.keys r.current r.number (r.confirmed + n) (value_at r.confirmed n chain) (status a);
    })

-- ---- the step
unfoldable pub reply_success : Replica → List ℕ → Step
reply_success r m =
    record {
      after = record {
        replica = replied_replica r (chain_after r m) (reply_count m) (is_aborted r m);
        says = says_of (is_aborted r m) (last_response r m) (last_seq r m);
      };
      wrote = commit_message r (chain_after r m) (reply_count m) (is_aborted r m);
    }

unfoldable pub reply_step : Replica → List ℕ → ℕ → Step
reply_step r m room = cond (eqb (reply_no r m room) 0) (reply_success r m) (stop_step r (reply_no r m room))
