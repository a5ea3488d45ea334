-- Why tags made EARLIER are asked for: with any 256 key bytes, a run in which client 2 takes a broadcast of client 1's operation before client 1
-- has made it. Cut there, the claim fails. The run's only let-off is that commit's tag, which client 1 makes later.
use Prim.Native.Nat.{ℕ}
use mathlib.Core.Path.{◌≡◌, refl, sym, ◌∙◌, ap}
use mathlib.Core.Logic.{◌⊎◌, inl, inr}
use mathlib.Core.List.Memᴰ
use mathlib.Core.List.{List, [], ◌∷◌, ◌++◌, Memᴰ}
use mathlib.Core.Bool.{false}
use native.Mathlib.Omega.{arith}
use lib.IntN.{pos}
use lib.ListN.{length}
use Rattle.sha256.specs.Sha256.{sha256}
use Rattle.operation.specs.Operation.{signed, temp_ok, last_byte_ok, allowed, op_ok, value, temp, after, effect}
use Rattle.message.specs.Message.{commit_string, reply_bytes, broadcast_bytes}
use Rattle.round_trips.proofs.Messages.{broadcast_read}
use Rattle.verify.specs.Verify.{link_value, commit_tag}
use Rattle.replica.proofs.Laws.{Sound}
use Rattle.replica.proofs.Places.{first_value}
use Rattle.message.specs.Content.{commit_ok}
use Rattle.client_broadcast.specs.Broadcast.{next_value, confirmed_replica}
use Rattle.client_laws.proofs.Invoke.{open_sound}
use Rattle.client_laws.proofs.Broadcast.{next_none}
use Rattle.agreement.specs.WholeRuns.{Call, invoke, receive, caller, message_of, step_of, start, update, Logged, log_of, all_of, taken, Confirmation, entry_of, history, entries, strings, Carried, broadcast_carried, tags, tag_by, Tagged, LetOff, forgery, Agreement}
use Rattle.agreement_runs.proofs.Shown.{Good, end, next, good_strings, good_tags, distinct, Run, done, call, run_is}
use Rattle.agreement_runs.proofs.Plays.{start_is, opens, made_event, made-shows, confirm_event, confirm_passes, confirm_step, confirm_shows}
use Rattle.agreement_runs.proofs.Replies.{reply_event}
use Rattle.agreement_runs.proofs.Items.{one_shows}
use Rattle.agreement_runs.proofs.TwoAuthors.{o₁, S₁, S₂, v₁, distinct_digests, i₁, k₁, f₁, g₁, a₀, a₁, b₀}
use Rattle.agreement_runs.proofs.TwoAuthorsSteps.{sa₁, passes₁, a₁_zero, step₁, step₂}
use Rattle.agreement_runs.proofs.Witness.{made₁, committed₁, is_first, cells_after}

abbrev first : List ℕ → Call
first keys = receive 2 (broadcast_bytes (k₁ keys)) 0

abbrev rest : List ℕ → List Call
rest keys = invoke 1 5 0 7 251 43 ∷ receive 1 (reply_bytes (i₁ keys ∷ [])) 80 ∷ []

abbrev e₁ : List ℕ → Logged
e₁ keys = confirm_event 2 (b₀ keys) (k₁ keys)

abbrev later : List ℕ → List Logged
later keys = made_event 1 (a₀ keys) 5 0 7 251 ∷ reply_event 1 (a₁ keys) (i₁ keys ∷ []) 1 false (pos 1) ∷ []

abbrev c₁ : Confirmation
c₁ = record { entry = record { op = o₁; author = 1; seq = 1; status = 1 }; cells = cells_after }

module _ (keys : List ℕ) (L : length keys ≡ 256) where
  due : next_value (b₀ keys) (k₁ keys) ≡ v₁
  due = next_none (b₀ keys) (k₁ keys) refl ∙ ap (λ (v : List ℕ). link_value v o₁ 1 1) first_value

  sb₀ : Sound (b₀ keys)
  sb₀ = open_sound 2 keys (opens keys 2 L refl)

  confirms : step_of (b₀ keys) (first keys) ≡ (e₁ keys).step
  unfolding commit_ok op_ok allowed last_byte_ok temp_ok signed
  confirms = confirm_step (b₀ keys) (k₁ keys) (g₁ keys) 2 (confirm_passes (b₀ keys) o₁ 1 1 v₁ 1 (g₁ keys) sb₀.range refl refl refl due)

  the_run : Run (start keys) (first keys ∷ rest keys) (e₁ keys ∷ later keys)
  unfolding caller update
  the_run =
      call (start_is keys 2 (opens keys 2 L refl)) confirms refl
      (call (start_is keys 1 (opens keys 1 L refl)) (step₁ keys L) refl
      (call refl (step₂ keys L) refl done))

  log_is : log_of keys (first keys ∷ rest keys) ≡ e₁ keys ∷ later keys
  unfolding log_of
  log_is = run_is the_run

  -- cut after its first call
  cut_is : log_of keys (first keys ∷ []) ≡ e₁ keys ∷ []
  unfolding log_of caller
  cut_is = run_is (call (start_is keys 2 (opens keys 2 L refl)) confirms refl done)

  -- ---- let off by that tag, and by nothing else
  off : LetOff keys (e₁ keys ∷ later keys)
  unfolding commit_tag tag_by tags taken message_of
  off =
      forgery [] (later keys) (e₁ keys) (broadcast_carried (k₁ keys)) refl
      (Memᴰ.head (ap broadcast_carried (sym (broadcast_read (k₁ keys) (g₁ keys))))) refl (λ T. Memᴰ.not-nil T.mem)

  good : Good (λ older x. Tagged keys older x.author x.string ⊎ (x ≡ broadcast_carried (k₁ keys))) (S₁ ∷ S₂ ∷ []) [] (e₁ keys ∷ later keys)
  good =
      next (confirm_shows (b₀ keys) (k₁ keys) (g₁ keys) 2 (is_first keys L first_value) (inr refl))
      (next made-shows
      (next (one_shows (a₁ keys) (i₁ keys) (f₁ keys) (passes₁ keys L) (sa₁ keys L).sized 1 false (pos 1) (is_first keys L (a₁_zero keys L)) (inl (made₁ keys L _ (Memᴰ.tail (Memᴰ.head refl)))))
      end))

  made-later : Tagged keys (e₁ keys ∷ later keys) 1 (commit_string o₁ 1 1 v₁ 1)
  made-later = committed₁ keys L _ (Memᴰ.tail (Memᴰ.tail (Memᴰ.head refl)))

  -- ---- the claim fails where it is cut: client 1 has got nothing
  history₂ : history 2 (e₁ keys ∷ []) ≡ c₁ ∷ []
  unfolding history all_of caller message_of taken confirmed_replica effect after value temp
  history₂ = λ t. record { entry = entry_of (broadcast_read (k₁ keys) (g₁ keys) t); cells = cells_after } ∷ []

  fails : Agreement (e₁ keys ∷ []) → ⊥
  unfolding Agreement entries caller
  fails A =
      let H = ((A 2 2 [] [] [] [] c₁ c₁ history₂ history₂ refl refl).answers [] [] c₁.entry refl).had in
      let q : ◌≡◌ {A = ℕ} 2 1 = ap (λ (e : Logged). caller e.call) (sym (Memᴰ.eq_of_singleton H.1)) ∙ H.2.by in
      absurd (omega arith)

pub record Early (keys : List ℕ) : Type 0 where
  pub first : Call
  pub rest : List Call
  pub off : LetOff keys (log_of keys (first ∷ rest))
  pub fails : Agreement (log_of keys (first ∷ [])) → ⊥
  -- no collision
  pub digests : (s t : List ℕ) → Memᴰ s (all_of strings (log_of keys (first ∷ rest))) → Memᴰ t (all_of strings (log_of keys (first ∷ rest)))
      → sha256 s ≡ sha256 t → s ≡ t
  -- a tag that had not been made before is that of client 1's commit
  pub others : (older newer : List Logged) (e : Logged) (x : Carried) → log_of keys (first ∷ rest) ≡ older ++ (e ∷ newer) → Memᴰ x (tags e)
      → Tagged keys older x.author x.string ⊎ (x ≡ broadcast_carried (k₁ keys))
  -- which client 1 makes later
  pub later : Tagged keys (log_of keys (first ∷ rest)) 1 (commit_string o₁ 1 1 v₁ 1)

pub earlier-tags_needed : (keys : List ℕ) → length keys ≡ 256 → Early keys
earlier-tags_needed keys L =
    record {
      first = first keys;
      rest = rest keys;
      off = rw (log_is keys L) (off keys L);
      fails = rw (cut_is keys L) (fails keys L);
      digests = rw (log_is keys L) (λ s t a b e. distinct S₁ S₂ s t distinct_digests (good_strings (good keys L) s a) (good_strings (good keys L) t b) e);
      others = rw (log_is keys L) (good_tags (good keys L));
      later = rw (log_is keys L) (made-later keys L);
    }
