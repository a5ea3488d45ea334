-- Taking a broadcast. Document 01, "What a van does" (`BR`) and "The questions, in order".
use Rattle.std.specs.Prelude.{ℕ, ◌+◌, ◌-◌, List, [], ◌∷◌, ◌++◌, Bool, cond, ◌&&◌, leb, eqb}
use Rattle.slices.specs.Bytes.{same}
use Rattle.operation.specs.Operation.{effect}
use Rattle.message.specs.declared.Commit.{Commit}
use Rattle.message.specs.Layout.{max_seq}
use Rattle.message.specs.Message.{is_broadcast, commit_of}
use Rattle.message.specs.Content.{commit_ok}
use Rattle.verify.specs.Verify.{commit_tag_ok, link_value}
use Rattle.replica.specs.declared.Replica.{Replica}
use Rattle.replica.specs.Outcome.{confirmed}
use Rattle.replica.specs.Places.{value_at, confirm_value, confirm_status}
use Rattle.checks.specs.Checks.{first_no}
use Rattle.replica.specs.Replica.{After, ready_checks, stop}

-- 25: "Place c + 1 and at most 1,000,000?"
abbrev pub seq_ok : Replica → Commit → Bool
seq_ok r k = eqb k.seq (r.confirmed + 1) && leb k.seq max_seq

-- "The chain value there is the held one, else it is worked out from that at c."
unfoldable pub next_value : Replica → Commit → List ℕ
next_value r k =
    cond (eqb r.held 0)
    (link_value (value_at r.confirmed 0 r.chain) k.op k.seq k.author)
    (value_at r.confirmed 1 r.chain)

-- 23: "Digest the chain value?"
unfoldable pub digest_ok : Replica → Commit → Bool
digest_ok r k = same k.digest (next_value r k)

-- the checks in their order: 8, 3, 20; 21 ("entry, author, status allowed?"), 25; 22, 23
abbrev pub form_checks : Replica → List ℕ → List (Bool × ℕ)
form_checks r m = ready_checks r ++ ((is_broadcast m, 20) ∷ [])

abbrev pub content_checks : Replica → Commit → List (Bool × ℕ)
content_checks r k = (commit_ok k, 21) ∷ (seq_ok r k, 25) ∷ []

abbrev pub proof_checks : Replica → Commit → List (Bool × ℕ)
proof_checks r k = (commit_tag_ok r.keys k, 22) ∷ (digest_ok r k, 23) ∷ []

unfoldable pub broadcast_no : Replica → List ℕ → ℕ
broadcast_no r m = first_no 0 (form_checks r m ++ (content_checks r (commit_of m) ++ proof_checks r (commit_of m)))

-- "`BR` confirms place c + 1 …. With status done the entry is run on the cells. c goes up by one."
unfoldable pub confirmed_replica : Replica → Commit → Replica
confirmed_replica r k =
    record {
      number = r.number;
      keys = r.keys;
      count = r.count;
      current = r.current;
      confirmed = r.confirmed + 1;
      held = r.held - 1;
      chain = confirm_value r.confirmed (next_value r k) r.chain;
      statuses = confirm_status r.confirmed r.statuses;
      cells = effect (eqb k.status 1) k.op r.cells;
      halt = r.halt;
    }

unfoldable pub broadcast_step : Replica → List ℕ → After
broadcast_step r m =
    cond (eqb (broadcast_no r m) 0)
    (record { replica = confirmed_replica r (commit_of m); says = confirmed (commit_of m).seq (commit_of m).status })
    (stop r (broadcast_no r m))
