-- The calls of a run: an operation made, a broadcast confirmed. (Replies: Replies.antt.)
use Prim.Native.Nat.{ℕ, ◌<◌, ◌^◌}
use mathlib.Core.Path.{◌≡◌, refl, sym, ◌∙◌, ap, subst}
use mathlib.Core.List.{List, [], ◌∷◌, Memᴰ}
use mathlib.Core.Bool.{Bool, true, false, cond, ◌&&◌, true≢false}
use lib.Dec.{leb, eqb}
use lib.ListN.{length, get_or}
use borrow.Author.Tests.{eq-eqb}
use Rattle.slices.specs.Bytes.{same}
use Rattle.slices.proofs.Laws.{and_yes, same_self}
use Rattle.operation.specs.declared.Operation.{Operation}
use Rattle.message.specs.declared.Commit.{Commit}
use Rattle.message.specs.Readers.{CommitFits}
use Rattle.message.specs.Message.{broadcast_bytes, marked, is_reply}
use Rattle.message.proofs.Laws.{reply_mark_lem}
use Rattle.round_trips.proofs.Messages.{broadcast_yes, broadcast_read}
use Rattle.verify.specs.Verify.{commit_tag, commit_tag_ok}
use Rattle.verify.proofs.Laws.{commit_tag-length}
use Rattle.replica.specs.declared.Replica.{Replica}
use Rattle.replica.specs.Outcome.{opened, confirmed}
use Rattle.replica.specs.Replica.{After, Step, in_range, fresh_replica, zero_replica, refuse}
use Rattle.client_open.specs.Open.{open_no, open_step}
use Rattle.client_invoke.specs.Invoke.{invoke_no}
use Rattle.message.specs.Content.{commit_ok}
use Rattle.client_broadcast.specs.Broadcast.{seq_ok, next_value, digest_ok, broadcast_no, confirmed_replica, broadcast_step}
use Rattle.client_broadcast.proofs.Laws.{broadcast_goes}
use Rattle.client_reply.specs.Reply.{reply_step}
use Rattle.checks.proofs.Laws.{cond_cases}
use Rattle.replica.proofs.Laws.{Sound}
use Rattle.client_laws.proofs.Invoke.{invoke_done, invoke-sound}
use Rattle.client_laws.proofs.Reply.{reply-sound}
use Rattle.client_laws.proofs.Broadcast.{broadcast-sound}
use Rattle.client_laws.proofs.Passes.{broadcast_passes}
use Rattle.client.specs.Receive.{receive_step}
use Rattle.agreement.specs.WholeRuns.{Call, invoke, receive, step_of, message_of, start, Logged, taken, broadcast_string, strings, Carried, broadcast_carried, tags}
use Rattle.agreement.proofs.Steps.{invoked_step}
use Rattle.agreement_runs.proofs.Shown.{none, more, Shows}

-- ---- opening
pub start_is : (keys : List ℕ) (n : ℕ) → open_no n keys ≡ 0 → start keys n ≡ fresh_replica n keys
unfolding start open_step
start_is keys n z =
    ap (λ (k : ℕ). let a : After = cond (eqb k 0) (record { replica = fresh_replica n keys; says = opened }) (refuse zero_replica k) in a.replica) z

pub opens : (keys : List ℕ) (n : ℕ) → length keys ≡ 256 → (leb 1 n && leb n 8) ≡ true → open_no n keys ≡ 0
unfolding open_no
opens keys n l a = rw (a, eq-eqb _ _ l)

-- ---- a replica in range stays so
step_sound : (r : Replica) (c : Call) → Sound r → Sound (step_of r c).after.replica
unfolding step_of receive_step
step_sound r (invoke i kind cell amount last room) s = invoke-sound r kind cell amount last room s
step_sound r (receive i m room) s =
    cond_cases (λ (x : Step). Sound x.after.replica) (is_reply m) (reply_step r m room) (record { after = broadcast_step r m; wrote = [] })
    (λ e. reply-sound r m room s) (λ e. broadcast-sound r m s)

pub sound-after : (r : Replica) (c : Call) {s : Step} → Sound r → step_of r c ≡ s → Sound s.after.replica
sound-after r c S e = subst (λ (s : Step). Sound s.after.replica) e (step_sound r c S)

-- ---- an operation made
abbrev pub made_event : ℕ → Replica → ℕ → ℕ → ℕ → ℕ → Logged
made_event i r kind cell amount last = record { call = invoke i kind cell amount last 43; before = r; step = invoked_step r kind cell amount last }

pub made_step : (i : ℕ) (r : Replica) (kind cell amount last : ℕ) → invoke_no r kind cell amount last 43 ≡ 0 → step_of r (invoke i kind cell amount last 43) ≡ (made_event i r kind cell amount last).step
unfolding step_of
made_step i r kind cell amount last z = invoke_done r kind cell amount last 43 z

module _ {P : List Logged → Carried → Type 0} {Ss : List (List ℕ)} {older : List Logged} where
  pub made-shows : {i : ℕ} {r : Replica} {kind cell amount last : ℕ} → Shows P Ss older (made_event i r kind cell amount last)
  unfolding strings tags taken
  made-shows = record { ss = []; strs = refl; known = none; xs = []; tgs = refl; each = none }

-- ---- a broadcast confirmed
abbrev pub confirm_event : ℕ → Replica → Commit → Logged
confirm_event i r k =
    record {
      call = receive i (broadcast_bytes k) 0;
      before = r;
      step = record { after = record { replica = confirmed_replica r k; says = confirmed k.seq k.status }; wrote = [] };
    }

-- a commit with its author's tag
abbrev pub commit_by : List ℕ → Operation → ℕ → ℕ → List ℕ → ℕ → Commit
commit_by keys e a seq digest status = record { op = e; author = a; seq = seq; digest = digest; status = status; tag = commit_tag keys e a seq digest status }

pub commit_fits : (keys : List ℕ) (e : Operation) (a seq : ℕ) (digest : List ℕ) (status : ℕ) → e.count < 2 ^ 32 → seq < 2 ^ 32 → length digest ≡ 32
    → CommitFits (commit_by keys e a seq digest status)
commit_fits keys e a seq digest status c p l = record { count = c; seq = p; digest = l; tag = commit_tag-length keys e a seq digest status }

no_reply : (k : Commit) → is_reply (broadcast_bytes k) ≡ false
unfolding marked broadcast_bytes
no_reply k = go (is_reply (broadcast_bytes k)) refl
  where
    go : (b : Bool) → is_reply (broadcast_bytes k) ≡ b → is_reply (broadcast_bytes k) ≡ false
    go false e = e
    go true e =
        absurd
        (let y = and_yes (leb 2 (length (broadcast_bytes k)) && eqb (get_or (broadcast_bytes k) 0 0) 82) (eqb (get_or (broadcast_bytes k) 1 0) 69) (reply_mark_lem (broadcast_bytes k) e) in
        let z : eqb 66 82 ≡ true = (and_yes (leb 2 (length (broadcast_bytes k))) (eqb (get_or (broadcast_bytes k) 0 0) 82) y.0).1 in
        true≢false (sym z))

-- the checks of a broadcast of k, where k carries its author's tag and the chain value that is due
module _ (r : Replica) (e : Operation) (a seq : ℕ) (digest : List ℕ) (status : ℕ) where
  abbrev k : Commit
  k = commit_by r.keys e a seq digest status

  tag_ok : commit_tag_ok r.keys k ≡ true
  unfolding commit_tag_ok
  tag_ok = same_self (commit_tag r.keys e a seq digest status)

  digest_ok_lem : next_value r k ≡ digest → digest_ok r k ≡ true
  unfolding digest_ok
  digest_ok_lem q = ap (same digest) q ∙ same_self digest

  pub confirm_passes : CommitFits (commit_by r.keys e a seq digest status) → in_range r ≡ true → r.halt ≡ 0 → commit_ok (commit_by r.keys e a seq digest status) ≡ true
      → seq_ok r (commit_by r.keys e a seq digest status) ≡ true → next_value r (commit_by r.keys e a seq digest status) ≡ digest
      → broadcast_no r (broadcast_bytes (commit_by r.keys e a seq digest status)) ≡ 0
  confirm_passes f range clear ok p q =
      broadcast_passes r (broadcast_bytes k) k (broadcast_read k f) range clear (broadcast_yes k f) ok p tag_ok (digest_ok_lem q)

module _ (r : Replica) (k : Commit) (f : CommitFits k) where
  pub confirm_step : (i : ℕ) → broadcast_no r (broadcast_bytes k) ≡ 0 → step_of r (receive i (broadcast_bytes k) 0) ≡ (confirm_event i r k).step
  unfolding step_of receive_step
  confirm_step i z =
      ap (λ (b : Bool). cond b (reply_step r (broadcast_bytes k) 0) (record { after = broadcast_step r (broadcast_bytes k); wrote = [] })) (no_reply k)
      ∙ ap (λ (a : After). record { after = a; wrote = [] }) (sym (broadcast_goes r (broadcast_bytes k) z))
      ∙ ap (λ (k : Commit). record { after = record { replica = confirmed_replica r k; says = confirmed k.seq k.status }; wrote = [] }) (broadcast_read k f)

  pub confirm_shows : {P : List Logged → Carried → Type 0} {Ss : List (List ℕ)} {older : List Logged} (i : ℕ)
      → Memᴰ (broadcast_string r k) Ss → P older (broadcast_carried k) → Shows P Ss older (confirm_event i r k)
  unfolding strings tags taken message_of
  confirm_shows i s p =
      record {
        ss = broadcast_string r k ∷ [];
        strs = ap (λ (k : Commit). broadcast_string r k ∷ []) (broadcast_read k f);
        known = more s none;
        xs = broadcast_carried k ∷ [];
        tgs = ap (λ (k : Commit). broadcast_carried k ∷ []) (broadcast_read k f);
        each = more p none;
      }
