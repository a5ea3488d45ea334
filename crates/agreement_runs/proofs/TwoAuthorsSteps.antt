-- A run of two authors (Witness.antt): what each call does.
use Prim.Native.Nat.{ℕ}
use mathlib.Core.Path.{◌≡◌, refl, ◌∙◌, ap}
use mathlib.Core.List.{List, [], ◌∷◌, flat_map}
use mathlib.Core.Bool.{true, false}
use native.Mathlib.Omega.{arith}
use lib.IntN.{pos}
use lib.ListN.{length, replicate}
use Rattle.operation.specs.Operation.{signed, temp_ok, last_byte_ok, allowed, op_ok, same_op, temp, value_response, response, after, response_on, run_all}
use Rattle.conflict.specs.Conflict.{responses, insertions, interleavings, same_responses, some, conflicts}
use Rattle.message.specs.Message.{reply_bytes, broadcast_bytes}
use Rattle.verify.specs.Verify.{link_value}
use Rattle.replica.specs.Places.{value_at}
use Rattle.replica.proofs.Places.{first_value}
use Rattle.replica.proofs.Laws.{Sound}
use Rattle.message.specs.Content.{commit_ok}
use Rattle.client_broadcast.specs.Broadcast.{next_value, confirmed_replica}
use Rattle.client_reply_check.specs.ReplyChecks.{listed_ok, item_chain_ok, is_uncommitted, reply_no}
use Rattle.client_reply.specs.Reply.{chain_after, sort_item, sort_to, is_aborted, last_response, replied_replica}
use Rattle.client_laws.proofs.Invoke.{open_sound}
use Rattle.client_laws.proofs.Chain.{values_stay}
use Rattle.client_laws.proofs.Broadcast.{next_held, next_none, value_first, value_moves}
use Rattle.client_laws.proofs.Passes.{invoke_passes}
use Rattle.agreement.specs.WholeRuns.{invoke, receive, step_of}
use Rattle.agreement_runs.proofs.Plays.{opens, sound-after, made_event, made_step, confirm_event, confirm_passes, confirm_step}
use Rattle.agreement_runs.proofs.Replies.{item_passes, reply_event, reply_step_lem}
use Rattle.agreement_runs.proofs.Items.{one_form, one_passes, one_value, two_form, two_passes, two_aborted, two_response, two_first, two_second}
use Rattle.agreement_runs.proofs.TwoAuthors.{o₁, o₂, v₁, v₂, i₁, i₂, k₁, k₂, f₁, f₂, g₁, g₂, a₀, a₁, a₂, a₃, b₀, b₁, b₂, b₃}

module _ (keys : List ℕ) (L : length keys ≡ 256) where
  -- ---- client 1
  sa₀ : Sound (a₀ keys)
  sa₀ = open_sound 1 keys (opens keys 1 L refl)

  pub step₁ : step_of (a₀ keys) (invoke 1 5 0 7 251 43) ≡ (made_event 1 (a₀ keys) 5 0 7 251).step
  unfolding allowed last_byte_ok temp_ok signed
  step₁ = made_step 1 (a₀ keys) 5 0 7 251 (invoke_passes (a₀ keys) 5 0 7 251 43 sa₀.range refl refl refl (omega arith) (omega arith))

  pub sa₁ : Sound (a₁ keys)
  sa₁ = sound-after (a₀ keys) (invoke 1 5 0 7 251 43) sa₀ step₁

  pub passes₁ : reply_no (a₁ keys) (reply_bytes (i₁ keys ∷ [])) 80 ≡ 0
  unfolding listed_ok op_ok allowed last_byte_ok temp_ok signed same_op item_chain_ok is_uncommitted
  passes₁ = one_passes (a₁ keys) (i₁ keys) (f₁ keys) sa₁.range refl (item_passes (a₁ keys) 1 0 o₁ 1 refl refl refl) refl refl

  pub step₂ : step_of (a₁ keys) (receive 1 (reply_bytes (i₁ keys ∷ [])) 80) ≡ (reply_event 1 (a₁ keys) (i₁ keys ∷ []) 1 false (pos 1)).step
  unfolding reply_bytes is_aborted last_response sort_to conflicts interleavings some responses same_responses response_on response value_response run_all
  step₂ = reply_step_lem 1 (a₁ keys) (i₁ keys ∷ []) 1 false (pos 1) (one_form (a₁ keys) (i₁ keys) (f₁ keys)) passes₁ refl refl refl

  sa₂ : Sound (a₂ keys)
  sa₂ = sound-after (a₁ keys) (receive 1 (reply_bytes (i₁ keys ∷ [])) 80) sa₁ step₂

  -- the chain: value 0 is zero, value 1 is v₁
  pub a₁_zero : value_at (a₁ keys).confirmed 0 (a₁ keys).chain ≡ replicate 32 0
  a₁_zero = first_value

  pub a₂_one : value_at (a₁ keys).confirmed 1 (chain_after (a₁ keys) (reply_bytes (i₁ keys ∷ []))) ≡ v₁
  a₂_one = one_value (a₁ keys) (i₁ keys) (f₁ keys) passes₁ sa₁.sized ∙ ap (λ (v : List ℕ). link_value v o₁ 1 1) a₁_zero

  pub a₂_zero : value_at (a₁ keys).confirmed 0 (chain_after (a₁ keys) (reply_bytes (i₁ keys ∷ []))) ≡ replicate 32 0
  a₂_zero = values_stay (a₁ keys) (reply_bytes (i₁ keys ∷ [])) 80 passes₁ sa₁.sized.chain 0 (omega arith) ∙ a₁_zero

  next₅ : next_value (a₂ keys) (k₁ keys) ≡ v₁
  unfolding replied_replica
  next₅ = next_held (a₂ keys) (k₁ keys) (omega arith) ∙ a₂_one

  pub step₅ : step_of (a₂ keys) (receive 1 (broadcast_bytes (k₁ keys)) 0) ≡ (confirm_event 1 (a₂ keys) (k₁ keys)).step
  unfolding replied_replica commit_ok op_ok allowed last_byte_ok temp_ok signed
  step₅ = confirm_step (a₂ keys) (k₁ keys) (g₁ keys) 1 (confirm_passes (a₂ keys) o₁ 1 1 v₁ 1 (g₁ keys) sa₂.range refl refl refl next₅)

  pub sa₃ : Sound (a₃ keys)
  sa₃ = sound-after (a₂ keys) (receive 1 (broadcast_bytes (k₁ keys)) 0) sa₂ step₅

  pub a₃_zero : value_at (a₃ keys).confirmed 0 (a₃ keys).chain ≡ v₁
  a₃_zero = value_first (a₂ keys) (k₁ keys) sa₂.sized.chain ∙ next₅

  next₇ : next_value (a₃ keys) (k₂ keys) ≡ v₂
  unfolding confirmed_replica replied_replica
  next₇ = next_none (a₃ keys) (k₂ keys) refl ∙ ap (λ (v : List ℕ). link_value v o₂ 2 2) a₃_zero

  pub step₇ : step_of (a₃ keys) (receive 1 (broadcast_bytes (k₂ keys)) 0) ≡ (confirm_event 1 (a₃ keys) (k₂ keys)).step
  unfolding confirmed_replica replied_replica commit_ok op_ok allowed last_byte_ok
  step₇ = confirm_step (a₃ keys) (k₂ keys) (g₂ keys) 1 (confirm_passes (a₃ keys) o₂ 2 2 v₂ 0 (g₂ keys) sa₃.range refl refl refl next₇)

  -- ---- client 2
  sb₀ : Sound (b₀ keys)
  sb₀ = open_sound 2 keys (opens keys 2 L refl)

  pub step₃ : step_of (b₀ keys) (invoke 2 6 0 0 0 43) ≡ (made_event 2 (b₀ keys) 6 0 0 0).step
  unfolding allowed last_byte_ok
  step₃ = made_step 2 (b₀ keys) 6 0 0 0 (invoke_passes (b₀ keys) 6 0 0 0 43 sb₀.range refl refl refl (omega arith) (omega arith))

  pub sb₁ : Sound (b₁ keys)
  sb₁ = sound-after (b₀ keys) (invoke 2 6 0 0 0 43) sb₀ step₃

  pub passes₂ : reply_no (b₁ keys) (reply_bytes (i₁ keys ∷ i₂ keys ∷ [])) 80 ≡ 0
  unfolding listed_ok op_ok allowed last_byte_ok temp_ok signed same_op item_chain_ok is_uncommitted
  passes₂ = two_passes (b₁ keys) (i₁ keys) (i₂ keys) (f₁ keys) (f₂ keys) sb₁.range refl (item_passes (b₁ keys) 2 0 o₁ 1 refl refl refl) (item_passes (b₁ keys) 2 1 o₂ 2 refl refl refl) refl refl

  aborts : is_aborted (b₁ keys) (reply_bytes (i₁ keys ∷ i₂ keys ∷ [])) ≡ true
  unfolding sort_item conflicts interleavings insertions some responses same_responses response_on response signed after temp flat_map
  aborts = two_aborted (b₁ keys) (i₁ keys) (i₂ keys) (f₁ keys) (f₂ keys)

  alone : last_response (b₁ keys) (reply_bytes (i₁ keys ∷ i₂ keys ∷ [])) ≡ pos 0
  unfolding sort_item response_on response signed run_all
  alone = two_response (b₁ keys) (i₁ keys) (i₂ keys) (f₁ keys) (f₂ keys)

  pub step₄ : step_of (b₁ keys) (receive 2 (reply_bytes (i₁ keys ∷ i₂ keys ∷ [])) 80) ≡ (reply_event 2 (b₁ keys) (i₁ keys ∷ i₂ keys ∷ []) 2 true (pos 0)).step
  unfolding reply_bytes
  step₄ = reply_step_lem 2 (b₁ keys) (i₁ keys ∷ i₂ keys ∷ []) 2 true (pos 0) (two_form (b₁ keys) (i₁ keys) (i₂ keys) (f₁ keys) (f₂ keys)) passes₂ refl aborts alone

  sb₂ : Sound (b₂ keys)
  sb₂ = sound-after (b₁ keys) (receive 2 (reply_bytes (i₁ keys ∷ i₂ keys ∷ [])) 80) sb₁ step₄

  pub b₁_zero : value_at (b₁ keys).confirmed 0 (b₁ keys).chain ≡ replicate 32 0
  b₁_zero = first_value

  pub b₂_zero : value_at (b₁ keys).confirmed 0 (chain_after (b₁ keys) (reply_bytes (i₁ keys ∷ i₂ keys ∷ []))) ≡ replicate 32 0
  b₂_zero = values_stay (b₁ keys) (reply_bytes (i₁ keys ∷ i₂ keys ∷ [])) 80 passes₂ sb₁.sized.chain 0 (omega arith) ∙ b₁_zero

  b₂_one : value_at (b₁ keys).confirmed 1 (chain_after (b₁ keys) (reply_bytes (i₁ keys ∷ i₂ keys ∷ []))) ≡ v₁
  b₂_one = two_first (b₁ keys) (i₁ keys) (i₂ keys) (f₁ keys) (f₂ keys) passes₂ sb₁.sized ∙ ap (λ (v : List ℕ). link_value v o₁ 1 1) b₁_zero

  pub b₂_two : value_at (b₁ keys).confirmed 2 (chain_after (b₁ keys) (reply_bytes (i₁ keys ∷ i₂ keys ∷ []))) ≡ v₂
  b₂_two = two_second (b₁ keys) (i₁ keys) (i₂ keys) (f₁ keys) (f₂ keys) passes₂ sb₁.sized ∙ ap (λ (v : List ℕ). link_value (link_value v o₁ 1 1) o₂ 2 2) b₁_zero

  next₆ : next_value (b₂ keys) (k₁ keys) ≡ v₁
  unfolding replied_replica
  next₆ = next_held (b₂ keys) (k₁ keys) (omega arith) ∙ b₂_one

  pub step₆ : step_of (b₂ keys) (receive 2 (broadcast_bytes (k₁ keys)) 0) ≡ (confirm_event 2 (b₂ keys) (k₁ keys)).step
  unfolding replied_replica commit_ok op_ok allowed last_byte_ok temp_ok signed
  step₆ = confirm_step (b₂ keys) (k₁ keys) (g₁ keys) 2 (confirm_passes (b₂ keys) o₁ 1 1 v₁ 1 (g₁ keys) sb₂.range refl refl refl next₆)

  sb₃ : Sound (b₃ keys)
  sb₃ = sound-after (b₂ keys) (receive 2 (broadcast_bytes (k₁ keys)) 0) sb₂ step₆

  pub b₃_zero : value_at (b₃ keys).confirmed 0 (b₃ keys).chain ≡ v₁
  b₃_zero = value_first (b₂ keys) (k₁ keys) sb₂.sized.chain ∙ next₆

  next₈ : next_value (b₃ keys) (k₂ keys) ≡ v₂
  unfolding confirmed_replica replied_replica
  next₈ = next_held (b₃ keys) (k₂ keys) (omega arith) ∙ value_moves (b₂ keys) (k₁ keys) sb₂.sized.chain 1 (omega arith) (omega arith) ∙ b₂_two

  pub step₈ : step_of (b₃ keys) (receive 2 (broadcast_bytes (k₂ keys)) 0) ≡ (confirm_event 2 (b₃ keys) (k₂ keys)).step
  unfolding confirmed_replica replied_replica commit_ok op_ok allowed last_byte_ok
  step₈ = confirm_step (b₃ keys) (k₂ keys) (g₂ keys) 2 (confirm_passes (b₃ keys) o₂ 2 2 v₂ 0 (g₂ keys) sb₃.range refl refl refl next₈)
