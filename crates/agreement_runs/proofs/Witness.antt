-- Not empty: with any 256 key bytes, a run that is not let off, in which clients 1 and 2 make an operation each, the second one is aborted,
-- and both clients confirm both. (The first one sets a temperature below 0, for which the second one asks: document 02, Q-2.)
use Prim.Native.Nat.{ℕ}
use mathlib.Core.Path.{◌≡◌, refl, ◌∙◌, ap}
use mathlib.Core.List.{List, [], ◌∷◌, map, Memᴰ}
use mathlib.Core.Bool.{true, false}
use lib.IntN.{pos}
use lib.ListN.{length, replicate}
use Rattle.operation.specs.declared.Cells.{Cells}
use Rattle.operation.specs.Operation.{value, temp, after, effect}
use Rattle.message.specs.Message.{invoke_string, commit_string, chain_string, reply_bytes, broadcast_bytes}
use Rattle.round_trips.proofs.Messages.{broadcast_read}
use Rattle.verify.specs.Verify.{invoke_tag, link_value}
use Rattle.replica.specs.Outcome.{invoked, responded, aborted, confirmed}
use Rattle.client_broadcast.specs.Broadcast.{confirmed_replica}
use Rattle.client_reply.specs.Reply.{replied_replica}
use Rattle.agreement.specs.WholeRuns.{Call, invoke, receive, caller, message_of, start, update, Logged, says, log_of, all_of, taken, Confirmation, history, entry_of, tag_by, Tagged, LetOff}
use Rattle.agreement.proofs.Events.{made-wrote}
use Rattle.agreement_runs.proofs.Shown.{Good, end, next, not_off, Run, done, call, run_is}
use Rattle.agreement_runs.proofs.Plays.{start_is, opens, made_event, made-shows, confirm_event, confirm_shows}
use Rattle.agreement_runs.proofs.Replies.{reply_event, reply-wrote}
use Rattle.agreement_runs.proofs.Items.{one_shows, two_shows}
use Rattle.agreement_runs.proofs.TwoAuthors.{o₁, o₂, S₁, S₂, v₁, v₂, distinct_digests, i₁, i₂, k₁, k₂, f₁, f₂, g₁, g₂, a₀, a₁, a₂, a₃, b₀, b₁, b₂, b₃}
use Rattle.agreement_runs.proofs.TwoAuthorsSteps.{sa₁, sb₁, passes₁, passes₂, a₁_zero, a₂_zero, a₂_one, a₃_zero, b₁_zero, b₂_zero, b₂_two, b₃_zero, step₁, step₂, step₃, step₄, step₅, step₆, step₇, step₈}

abbrev calls : List ℕ → List Call
calls keys =
    invoke 1 5 0 7 251 43
    ∷ receive 1 (reply_bytes (i₁ keys ∷ [])) 80
    ∷ invoke 2 6 0 0 0 43
    ∷ receive 2 (reply_bytes (i₁ keys ∷ i₂ keys ∷ [])) 80
    ∷ receive 1 (broadcast_bytes (k₁ keys)) 0
    ∷ receive 2 (broadcast_bytes (k₁ keys)) 0
    ∷ receive 1 (broadcast_bytes (k₂ keys)) 0
    ∷ receive 2 (broadcast_bytes (k₂ keys)) 0
    ∷ []

abbrev e₁ : List ℕ → Logged
e₁ keys = made_event 1 (a₀ keys) 5 0 7 251

abbrev e₂ : List ℕ → Logged
e₂ keys = reply_event 1 (a₁ keys) (i₁ keys ∷ []) 1 false (pos 1)

abbrev e₃ : List ℕ → Logged
e₃ keys = made_event 2 (b₀ keys) 6 0 0 0

abbrev e₄ : List ℕ → Logged
e₄ keys = reply_event 2 (b₁ keys) (i₁ keys ∷ i₂ keys ∷ []) 2 true (pos 0)

abbrev log : List ℕ → List Logged
log keys =
    e₁ keys ∷ e₂ keys ∷ e₃ keys ∷ e₄ keys
    ∷ confirm_event 1 (a₂ keys) (k₁ keys)
    ∷ confirm_event 2 (b₂ keys) (k₁ keys)
    ∷ confirm_event 1 (a₃ keys) (k₂ keys)
    ∷ confirm_event 2 (b₃ keys) (k₂ keys)
    ∷ []

-- what both clients confirm, and their cells after each: the temperature is −5
abbrev pub cells_after : Cells
cells_after = record { values = 7 ∷ replicate 15 0; temps = 251 ∷ replicate 15 0 }

abbrev pub both : List Confirmation
both =
    record { entry = record { op = o₁; author = 1; seq = 1; status = 1 }; cells = cells_after }
    ∷ record { entry = record { op = o₂; author = 2; seq = 2; status = 0 }; cells = cells_after }
    ∷ []

module _ (keys : List ℕ) (L : length keys ≡ 256) where
  the_run : Run (start keys) (calls keys) (log keys)
  unfolding caller update
  the_run =
      call (start_is keys 1 (opens keys 1 L refl)) (step₁ keys L) refl
      (call refl (step₂ keys L) refl
      (call (start_is keys 2 (opens keys 2 L refl)) (step₃ keys L) refl
      (call refl (step₄ keys L) refl
      (call refl (step₅ keys L) refl
      (call refl (step₆ keys L) refl
      (call refl (step₇ keys L) refl
      (call refl (step₈ keys L) refl done)))))))

  log_is : log_of keys (calls keys) ≡ log keys
  unfolding log_of
  log_is = run_is the_run

  -- ---- who tagged what
  pub made₁ : (older : List Logged) → Memᴰ (e₁ keys) older → Tagged keys older 1 (invoke_string o₁ 1)
  unfolding caller invoke_tag tag_by
  made₁ older m = record { event = e₁ keys; mem = m; by = refl; wrote = made-wrote (e₁ keys) 5 0 7 251 refl }

  made₂ : (older : List Logged) → Memᴰ (e₃ keys) older → Tagged keys older 2 (invoke_string o₂ 2)
  unfolding caller invoke_tag tag_by
  made₂ older m = record { event = e₃ keys; mem = m; by = refl; wrote = made-wrote (e₃ keys) 6 0 0 0 refl }

  pub committed₁ : (older : List Logged) → Memᴰ (e₂ keys) older → Tagged keys older 1 (commit_string o₁ 1 1 v₁ 1)
  unfolding caller
  committed₁ older m = record { event = e₂ keys; mem = m; by = refl; wrote = reply-wrote (a₁ keys) (reply_bytes (i₁ keys ∷ [])) 1 false v₁ (a₂_one keys L) }

  committed₂ : (older : List Logged) → Memᴰ (e₄ keys) older → Tagged keys older 2 (commit_string o₂ 2 2 v₂ 0)
  unfolding caller
  committed₂ older m = record { event = e₄ keys; mem = m; by = refl; wrote = reply-wrote (b₁ keys) (reply_bytes (i₁ keys ∷ i₂ keys ∷ [])) 2 true v₂ (b₂_two keys L) }

  -- ---- not let off
  pub is_first : {v : List ℕ} → v ≡ replicate 32 0 → Memᴰ (chain_string v o₁ 1 1) (S₁ ∷ S₂ ∷ [])
  is_first q = Memᴰ.head (ap (λ (v : List ℕ). chain_string v o₁ 1 1) q)

  is_second : {v : List ℕ} → v ≡ v₁ → Memᴰ (chain_string v o₂ 2 2) (S₁ ∷ S₂ ∷ [])
  is_second q = Memᴰ.tail (Memᴰ.head (ap (λ (v : List ℕ). chain_string v o₂ 2 2) q))

  first : {e : Logged} {l : List Logged} → Memᴰ e (e ∷ l)
  first = Memᴰ.head refl

  good : Good (λ older x. Tagged keys older x.author x.string) (S₁ ∷ S₂ ∷ []) [] (log keys)
  unfolding replied_replica
  good =
      next made-shows
      (next (one_shows (a₁ keys) (i₁ keys) (f₁ keys) (passes₁ keys L) (sa₁ keys L).sized 1 false (pos 1) (is_first (a₁_zero keys L)) (made₁ _ first))
      (next made-shows
      (next
      (two_shows (b₁ keys) (i₁ keys) (i₂ keys) (f₁ keys) (f₂ keys) (passes₂ keys L) (sb₁ keys L).sized 2 true (pos 0)
      (is_first (b₁_zero keys L))
      (is_second (ap (λ (v : List ℕ). link_value v o₁ 1 1) (b₁_zero keys L)))
      (made₁ _ first) (made₂ _ (Memᴰ.tail (Memᴰ.tail first))))
      (next (confirm_shows (a₂ keys) (k₁ keys) (g₁ keys) 1 (is_first (a₂_zero keys L)) (committed₁ _ (Memᴰ.tail first)))
      (next (confirm_shows (b₂ keys) (k₁ keys) (g₁ keys) 2 (is_first (b₂_zero keys L)) (committed₁ _ (Memᴰ.tail first)))
      (next (confirm_shows (a₃ keys) (k₂ keys) (g₂ keys) 1 (is_second (a₃_zero keys L)) (committed₂ _ (Memᴰ.tail (Memᴰ.tail (Memᴰ.tail first)))))
      (next (confirm_shows (b₃ keys) (k₂ keys) (g₂ keys) 2 (is_second (b₃_zero keys L)) (committed₂ _ (Memᴰ.tail (Memᴰ.tail (Memᴰ.tail first)))))
      end)))))))

  -- ---- what each client confirmed
  history₁ : history 1 (log keys) ≡ both
  unfolding history all_of caller message_of taken confirmed_replica replied_replica effect after value temp
  history₁ =
      (λ t. record { entry = entry_of (broadcast_read (k₁ keys) (g₁ keys) t); cells = cells_after }
      ∷ record { entry = entry_of (broadcast_read (k₂ keys) (g₂ keys) t); cells = cells_after } ∷ [])

  history₂ : history 2 (log keys) ≡ both
  unfolding history all_of caller message_of taken confirmed_replica replied_replica effect after value temp
  history₂ =
      (λ t. record { entry = entry_of (broadcast_read (k₁ keys) (g₁ keys) t); cells = cells_after }
      ∷ record { entry = entry_of (broadcast_read (k₂ keys) (g₂ keys) t); cells = cells_after } ∷ [])

pub record Witness (keys : List ℕ) : Type 0 where
  pub calls : List Call
  pub fine : LetOff keys (log_of keys calls) → ⊥
  -- what each call told: client 1 got 1 for its operation at place 1, client 2 "aside" for its own at place 2
  pub told : map (λ e. says e) (log_of keys calls)
      ≡ invoked 1 ∷ responded 1 (pos 1) ∷ invoked 1 ∷ aborted 2 ∷ confirmed 1 1 ∷ confirmed 1 1 ∷ confirmed 2 0 ∷ confirmed 2 0 ∷ []
  pub one : history 1 (log_of keys calls) ≡ both
  pub two : history 2 (log_of keys calls) ≡ both

pub witness : (keys : List ℕ) → length keys ≡ 256 → Witness keys
witness keys L =
    record {
      calls = calls keys;
      fine = rw (log_is keys L) (not_off keys S₁ S₂ (log keys) distinct_digests (good keys L));
      told = ap (map (λ e. says e)) (log_is keys L);
      one = ap (history 1) (log_is keys L) ∙ history₁ keys L;
      two = ap (history 2) (log_is keys L) ∙ history₂ keys L;
    }
