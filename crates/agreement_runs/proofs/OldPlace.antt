-- "A relay that lists my old entry at a new place should be stopped there" (document 02, Q-4): with any 256 key bytes, a run that is not let off,
-- in which client 1 has its operation confirmed at place 1, makes another, and the reply lists the first one again, at place 2. It halts with 26.
use Prim.Native.Nat.{ℕ}
use mathlib.Core.Path.{◌≡◌, refl, ap}
use mathlib.Core.List.Memᴰ
use mathlib.Core.List.{List, [], ◌∷◌, map}
use mathlib.Core.Bool.{false}
use native.Mathlib.Omega.{arith}
use lib.IntN.{pos}
use lib.ListN.{length}
use Rattle.operation.specs.declared.Operation.{Operation}
use Rattle.operation.specs.Operation.{last_byte_ok, allowed, op_ok, temp_ok, signed}
use Rattle.message.specs.declared.Item.{Item}
use Rattle.message.specs.Readers.{ItemFits}
use Rattle.message.specs.Message.{reply_bytes, broadcast_bytes}
use Rattle.replica.specs.declared.Replica.{Replica}
use Rattle.replica.specs.Outcome.{invoked, responded, confirmed, halted}
use Rattle.replica.proofs.Laws.{Sound}
use Rattle.client_invoke.specs.Invoke.{invoked_replica}
use Rattle.client_broadcast.specs.Broadcast.{confirmed_replica}
use Rattle.client_reply_check.specs.ReplyChecks.{listed_ok, item_chain_ok, is_uncommitted}
use Rattle.client_reply.specs.Reply.{replied_replica}
use Rattle.client_laws.proofs.Passes.{invoke_passes}
use Rattle.agreement.specs.WholeRuns.{Call, invoke, receive, caller, step_of, start, update, Logged, says, log_of, Tagged, LetOff}
use Rattle.agreement_runs.proofs.Shown.{Good, end, next, not_off, Run, done, call, run_is}
use Rattle.agreement_runs.proofs.Plays.{start_is, opens, sound-after, made_event, made_step, made-shows, confirm_event, confirm_shows}
use Rattle.agreement_runs.proofs.Replies.{item_by, item_fits, item_proved, reply_event, halt_event, halt_shows}
use Rattle.agreement_runs.proofs.Items.{one_shows, two_halts}
use Rattle.agreement_runs.proofs.TwoAuthors.{o₁, S₁, S₂, distinct_digests, i₁, k₁, f₁, g₁, a₀, a₁, a₂, a₃}
use Rattle.agreement_runs.proofs.TwoAuthorsSteps.{sa₁, sa₃, passes₁, a₁_zero, a₂_zero, step₁, step₂, step₅}
use Rattle.agreement_runs.proofs.Witness.{made₁, committed₁, is_first}

-- client 1's second operation: it reads cell 0
abbrev o₃ : Operation
o₃ = record { count = 2; kind = 3; cell = 0; amount = 0; last = 0 }

abbrev i₃ : List ℕ → Item
i₃ keys = item_by keys o₃ 1

f₃ : (keys : List ℕ) → ItemFits (i₃ keys)
f₃ keys = item_fits keys o₃ 1 (omega arith)

abbrev a₄ : List ℕ → Replica
a₄ keys = invoked_replica (a₃ keys) o₃

abbrev calls : List ℕ → List Call
calls keys =
    invoke 1 5 0 7 251 43
    ∷ receive 1 (reply_bytes (i₁ keys ∷ [])) 80
    ∷ receive 1 (broadcast_bytes (k₁ keys)) 0
    ∷ invoke 1 3 0 0 0 43
    ∷ receive 1 (reply_bytes (i₁ keys ∷ i₃ keys ∷ [])) 80
    ∷ []

abbrev log : List ℕ → List Logged
log keys =
    made_event 1 (a₀ keys) 5 0 7 251
    ∷ reply_event 1 (a₁ keys) (i₁ keys ∷ []) 1 false (pos 1)
    ∷ confirm_event 1 (a₂ keys) (k₁ keys)
    ∷ made_event 1 (a₃ keys) 3 0 0 0
    ∷ halt_event 1 (a₄ keys) (i₁ keys ∷ i₃ keys ∷ []) 26
    ∷ []

module _ (keys : List ℕ) (L : length keys ≡ 256) where
  made : step_of (a₃ keys) (invoke 1 3 0 0 0 43) ≡ (made_event 1 (a₃ keys) 3 0 0 0).step
  unfolding allowed last_byte_ok confirmed_replica replied_replica
  made = made_step 1 (a₃ keys) 3 0 0 0 (invoke_passes (a₃ keys) 3 0 0 0 43 (sa₃ keys L).range refl refl refl (omega arith) (omega arith))

  sa₄ : Sound (a₄ keys)
  unfolding confirmed_replica replied_replica
  sa₄ = sound-after (a₃ keys) (invoke 1 3 0 0 0 43) (sa₃ keys L) made

  halts : step_of (a₄ keys) (receive 1 (reply_bytes (i₁ keys ∷ i₃ keys ∷ [])) 80) ≡ (halt_event 1 (a₄ keys) (i₁ keys ∷ i₃ keys ∷ []) 26).step
  unfolding confirmed_replica replied_replica listed_ok op_ok allowed last_byte_ok temp_ok signed item_chain_ok is_uncommitted
  halts = two_halts (a₄ keys) (i₁ keys) (i₃ keys) (f₁ keys) (f₃ keys) 1 sa₄.range refl (item_proved (a₄ keys) 0 o₁ 1 refl refl) refl

  the_run : Run (start keys) (calls keys) (log keys)
  unfolding caller update confirmed_replica replied_replica
  the_run =
      call (start_is keys 1 (opens keys 1 L refl)) (step₁ keys L) refl
      (call refl (step₂ keys L) refl
      (call refl (step₅ keys L) refl
      (call refl made refl
      (call refl halts refl done))))

  log_is : log_of keys (calls keys) ≡ log keys
  unfolding log_of
  log_is = run_is the_run

  good : Good (λ older x. Tagged keys older x.author x.string) (S₁ ∷ S₂ ∷ []) [] (log keys)
  unfolding replied_replica
  good =
      next made-shows
      (next (one_shows (a₁ keys) (i₁ keys) (f₁ keys) (passes₁ keys L) (sa₁ keys L).sized 1 false (pos 1) (is_first keys L (a₁_zero keys L)) (made₁ keys L _ (Memᴰ.head refl)))
      (next (confirm_shows (a₂ keys) (k₁ keys) (g₁ keys) 1 (is_first keys L (a₂_zero keys L)) (committed₁ keys L _ (Memᴰ.tail (Memᴰ.head refl))))
      (next made-shows
      (next (halt_shows 1 (a₄ keys) (i₁ keys ∷ i₃ keys ∷ []) 26) end))))

pub record OldPlace (keys : List ℕ) : Type 0 where
  pub calls : List Call
  pub fine : LetOff keys (log_of keys calls) → ⊥
  pub told : map (λ e. says e) (log_of keys calls) ≡ invoked 1 ∷ responded 1 (pos 1) ∷ confirmed 1 1 ∷ invoked 2 ∷ halted 26 ∷ []

pub old_place_halts : (keys : List ℕ) → length keys ≡ 256 → OldPlace keys
unfolding confirmed_replica replied_replica
old_place_halts keys L =
    record {
      calls = calls keys;
      fine = rw (log_is keys L) (not_off keys S₁ S₂ (log keys) distinct_digests (good keys L));
      told = ap (map (λ e. says e)) (log_is keys L);
    }
