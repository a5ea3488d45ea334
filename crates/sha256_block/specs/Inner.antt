-- Internal: what the inner functions return. No part of the definition of SHA-256.
use Rattle.std.specs.Prelude.{ℕ, zero, suc, ◌+◌, List, slice_set}
use Rattle.sha256_core.specs.declared.State.{State}
use Rattle.sha256_core.specs.Round.{round_at}
use Rattle.sha256_block.specs.Block.{next_word}

-- n steps, numbered from t on
unfoldable pub steps : {A : Type 0} → (ℕ → A → A) → ℕ → ℕ → A → A
steps f zero t a = a
steps f (suc n) t a = f (t + n) (steps f n t a)

-- word t of a schedule, put in its place
unfoldable pub add_word : ℕ → List ℕ → List ℕ
add_word t w = slice_set w t (next_word w t)

-- n words of a schedule, from word t on
abbrev pub add_words : ℕ → ℕ → List ℕ → List ℕ
add_words = steps add_word

-- n rounds from round t on
abbrev pub rounds_from : ℕ → ℕ → List ℕ → State → State
rounds_from n t w = steps (λ i. round_at i w) n t
