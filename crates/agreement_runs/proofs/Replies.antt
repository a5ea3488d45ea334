-- The calls of a run: a reply taken.
use Prim.Native.Nat.{ℕ, ◌+◌, ◌<◌, ◌^◌}
use mathlib.Core.Path.{◌≡◌, refl, sym, ◌∙◌, ap}
use mathlib.Core.List.{List, [], ◌∷◌, ◌++◌}
use mathlib.Core.Bool.{Bool, true, cond, not}
use Rattle.slices.proofs.Laws.{same_self}
use Rattle.operation.specs.declared.Operation.{Operation}
use Rattle.operation.specs.Operation.{Response}
use Rattle.message.specs.declared.Item.{Item}
use Rattle.message.specs.Readers.{ItemFits}
use Rattle.message.specs.Message.{commit_string, reply_bytes, is_reply, reply_count}
use Rattle.message.proofs.Laws.{commit_tagged}
use Rattle.verify.specs.Verify.{invoke_tag, commit_tag, item_tag_ok}
use Rattle.replica.specs.Places.{value_at, status_at}
use Rattle.verify.proofs.Laws.{invoke-tag-length}
use Rattle.replica.specs.declared.Replica.{Replica}
use Rattle.replica.specs.Replica.{Step}
use Rattle.checks.proofs.Laws.{Yes}
use Rattle.client_broadcast.specs.Broadcast.{broadcast_step}
use Rattle.client_reply_check.specs.ReplyChecks.{listed_ok, item_chain_ok, is_uncommitted, item_proof_checks, item_checks, reply_no}
use Rattle.client_reply.specs.Reply.{chain_after, is_aborted, last_response, says_of, status, replied_replica, commit_message, reply_success, reply_step}
use Rattle.client_laws.proofs.Reply.{reply_done}
use Rattle.client_laws.proofs.Uncommitted.{halt_step}
use Rattle.client.specs.Receive.{receive_step}
use Rattle.agreement.specs.WholeRuns.{receive, step_of, Logged, taken, strings, Carried, tags, tag_by}
use Rattle.agreement_runs.proofs.Shown.{none, Shows}

-- an item with its author's tag
abbrev pub item_by : List ℕ → Operation → ℕ → Item
item_by keys e a = record { op = e; author = a; tag = invoke_tag keys e a }

pub item_fits : (keys : List ℕ) (e : Operation) (a : ℕ) → e.count < 2 ^ 32 → ItemFits (item_by keys e a)
item_fits keys e a c = record { count = c; tag = invoke-tag-length keys e a }

-- its checks 21 to 23, where no chain value is held there, or the one that it gives
pub item_proved : (r : Replica) (k : ℕ) (e : Operation) (a : ℕ) → listed_ok r.confirmed k (item_by r.keys e a) ≡ true
    → item_chain_ok r.confirmed r.held r.chain k (item_by r.keys e a) ≡ true
    → Yes ((listed_ok r.confirmed k (item_by r.keys e a), 21) ∷ item_proof_checks r k (item_by r.keys e a))
unfolding item_tag_ok
item_proved r k e a p q = (p, (same_self (invoke_tag r.keys e a), (q, tt)))

-- and all of them
pub item_passes : (r : Replica) (n k : ℕ) (e : Operation) (a : ℕ) → listed_ok r.confirmed k (item_by r.keys e a) ≡ true
    → item_chain_ok r.confirmed r.held r.chain k (item_by r.keys e a) ≡ true
    → not (is_uncommitted r.number (status_at r.confirmed k r.statuses) n k (item_by r.keys e a)) ≡ true → Yes (item_checks r n k (item_by r.keys e a))
unfolding item_tag_ok
item_passes r n k e a p q u = (p, (same_self (invoke_tag r.keys e a), (q, (u, tt))))

-- ---- the event: the reply of these items, of which there are n, taken with room for a commit
abbrev pub replied_step : Replica → List ℕ → ℕ → Bool → Response → Step
replied_step r m n a x =
    record {
      after = record { replica = replied_replica r (chain_after r m) n a; says = says_of a x (r.confirmed + n) };
      wrote = commit_message r (chain_after r m) n a;
    }

abbrev pub reply_event : ℕ → Replica → List Item → ℕ → Bool → Response → Logged
reply_event i r is n a x = record { call = receive i (reply_bytes is) 80; before = r; step = replied_step r (reply_bytes is) n a x }

pub reply_step_lem : (i : ℕ) (r : Replica) (is : List Item) (n : ℕ) (a : Bool) (x : Response) → is_reply (reply_bytes is) ≡ true → reply_no r (reply_bytes is) 80 ≡ 0
    → reply_count (reply_bytes is) ≡ n → is_aborted r (reply_bytes is) ≡ a → last_response r (reply_bytes is) ≡ x
    → step_of r (receive i (reply_bytes is) 80) ≡ (reply_event i r is n a x).step
unfolding step_of receive_step reply_success
reply_step_lem i r is n a x f z c d e =
    let m = reply_bytes is in
    ap (λ (b : Bool). cond b (reply_step r m 80) (record { after = broadcast_step r m; wrote = [] })) f
    ∙ reply_done r m 80 z
    ∙ (λ t. record { after = record { replica = replied_replica r (chain_after r m) (c t) (d t); says = says_of (d t) (e t) (r.confirmed + c t) }; wrote = commit_message r (chain_after r m) (c t) (d t) })

-- ---- the same reply halts
abbrev pub halt_event : ℕ → Replica → List Item → ℕ → Logged
halt_event i r is n = record { call = receive i (reply_bytes is) 80; before = r; step = halt_step r n }

pub halt_step_lem : (i : ℕ) (r : Replica) (is : List Item) (n : ℕ) → is_reply (reply_bytes is) ≡ true → reply_step r (reply_bytes is) 80 ≡ halt_step r n
    → step_of r (receive i (reply_bytes is) 80) ≡ (halt_event i r is n).step
unfolding step_of receive_step
halt_step_lem i r is n f z =
    let m = reply_bytes is in
    ap (λ (b : Bool). cond b (reply_step r m 80) (record { after = broadcast_step r m; wrote = [] })) f ∙ z

pub halt_shows : {P : List Logged → Carried → Type 0} {Ss : List (List ℕ)} {older : List Logged} (i : ℕ) (r : Replica) (is : List Item) (n : ℕ)
    → Shows P Ss older (halt_event i r is n)
unfolding strings tags taken
halt_shows i r is n = record { ss = []; strs = refl; known = none; xs = []; tgs = refl; each = none }

-- it writes its commit's string, with the tag
pub reply-wrote : (r : Replica) (m : List ℕ) (n : ℕ) (a : Bool) (d : List ℕ) → value_at r.confirmed n (chain_after r m) ≡ d
    → commit_message r (chain_after r m) n a
    ≡ commit_string r.current r.number (r.confirmed + n) d (status a)
    ++ tag_by r.keys r.number (commit_string r.current r.number (r.confirmed + n) d (status a))
unfolding commit_message commit_tag tag_by
reply-wrote r m n a d q =
    let p = r.confirmed + n in
    sym (commit_tagged (record { op = r.current; author = r.number; seq = p; digest = value_at r.confirmed n (chain_after r m); status = status a; tag = commit_tag r.keys r.current r.number p (value_at r.confirmed n (chain_after r m)) (status a) }))
    ∙ ap (λ (d : List ℕ). commit_string r.current r.number p d (status a) ++ tag_by r.keys r.number (commit_string r.current r.number p d (status a))) q
