-- A run of two authors (Witness.antt): its operations, messages and replicas.
use Prim.Native.Nat.{ℕ}
use mathlib.Core.Path.{◌≡◌, refl, sym, ◌∙◌, ap}
use mathlib.Core.List.{List, [], ◌∷◌}
use mathlib.Core.Bool.{true, false}
use native.Mathlib.Omega.{arith}
use lib.ListN.{get_or, replicate}
use Rattle.slices.specs.Bytes.{big_endian, word_at}
use Rattle.sha256_core.specs.Round.{k_table, round_of, round_at, add_state}
use Rattle.sha256_pad.specs.Padding.{padding, pad}
use Rattle.sha256_block.specs.Block.{words_at, next_word, schedule, rounds, compress_of}
use Rattle.sha256_bytes.specs.Bytes.{bytes_of}
use Rattle.sha256.specs.Sha256.{block_count, initial, hash_from, sha256}
use Rattle.operation.specs.declared.Operation.{Operation}
use Rattle.operation.specs.Operation.{op_bytes}
use Rattle.message.specs.declared.Item.{Item}
use Rattle.message.specs.declared.Commit.{Commit}
use Rattle.message.specs.Readers.{ItemFits, CommitFits}
use Rattle.message.specs.Message.{chain_string, reply_bytes}
use Rattle.verify.specs.Verify.{link_value}
use Rattle.verify.proofs.Laws.{link_length}
use Rattle.replica.specs.declared.Replica.{Replica}
use Rattle.replica.specs.Replica.{fresh_replica}
use Rattle.client_invoke.specs.Invoke.{invoked_replica}
use Rattle.client_broadcast.specs.Broadcast.{confirmed_replica}
use Rattle.client_reply.specs.Reply.{chain_after, replied_replica}
use Rattle.agreement_runs.proofs.Plays.{commit_by, commit_fits}
use Rattle.agreement_runs.proofs.Replies.{item_by, item_fits}

-- client 1 sets cell 0 to 7 and its temperature to −5, client 2 asks for the temperature
abbrev pub o₁ : Operation
o₁ = record { count = 1; kind = 5; cell = 0; amount = 7; last = 251 }

abbrev pub o₂ : Operation
o₂ = record { count = 1; kind = 6; cell = 0; amount = 0; last = 0 }

-- the chain
abbrev pub S₁ : List ℕ
S₁ = chain_string (replicate 32 0) o₁ 1 1

abbrev pub v₁ : List ℕ
v₁ = link_value (replicate 32 0) o₁ 1 1

abbrev pub S₂ : List ℕ
S₂ = chain_string v₁ o₂ 2 2

abbrev pub v₂ : List ℕ
v₂ = link_value v₁ o₂ 2 2

digest₁ : get_or (sha256 S₁) 0 0 ≡ 37
unfolding k_table round_of round_at add_state big_endian word_at padding pad words_at block_count initial next_word schedule rounds compress_of hash_from bytes_of sha256 chain_string op_bytes
digest₁ = refl

digest₂ : get_or (sha256 S₂) 0 0 ≡ 178
unfolding k_table round_of round_at add_state big_endian word_at padding pad words_at block_count initial next_word schedule rounds compress_of hash_from bytes_of sha256 chain_string op_bytes link_value
digest₂ = refl

pub distinct_digests : sha256 S₁ ≡ sha256 S₂ → ⊥
distinct_digests e = (let z : ◌≡◌ {A = ℕ} 37 178 = sym digest₁ ∙ ap (λ (d : List ℕ). get_or d 0 0) e ∙ digest₂ in absurd (omega arith))

module _ (keys : List ℕ) where
  abbrev pub i₁ : Item
  i₁ = item_by keys o₁ 1

  abbrev pub i₂ : Item
  i₂ = item_by keys o₂ 2

  abbrev pub k₁ : Commit
  k₁ = commit_by keys o₁ 1 1 v₁ 1

  abbrev pub k₂ : Commit
  k₂ = commit_by keys o₂ 2 2 v₂ 0

  pub f₁ : ItemFits i₁
  f₁ = item_fits keys o₁ 1 (omega arith)

  pub f₂ : ItemFits i₂
  f₂ = item_fits keys o₂ 2 (omega arith)

  pub g₁ : CommitFits k₁
  g₁ = commit_fits keys o₁ 1 1 v₁ 1 (omega arith) (omega arith) (link_length (replicate 32 0) o₁ 1 1)

  pub g₂ : CommitFits k₂
  g₂ = commit_fits keys o₂ 2 2 v₂ 0 (omega arith) (omega arith) (link_length v₁ o₂ 2 2)

  -- the replicas of client 1
  abbrev pub a₀ : Replica
  a₀ = fresh_replica 1 keys

  abbrev pub a₁ : Replica
  a₁ = invoked_replica a₀ o₁

  abbrev pub a₂ : Replica
  a₂ = replied_replica a₁ (chain_after a₁ (reply_bytes (i₁ ∷ []))) 1 false

  abbrev pub a₃ : Replica
  a₃ = confirmed_replica a₂ k₁

  -- the replicas of client 2
  abbrev pub b₀ : Replica
  b₀ = fresh_replica 2 keys

  abbrev pub b₁ : Replica
  b₁ = invoked_replica b₀ o₂

  abbrev pub b₂ : Replica
  b₂ = replied_replica b₁ (chain_after b₁ (reply_bytes (i₁ ∷ i₂ ∷ []))) 2 true

  abbrev pub b₃ : Replica
  b₃ = confirmed_replica b₂ k₁
