-- FIPS 180-4, sections 5.2.1 and 6.2.2: the words of a block, its schedule, the 64 rounds and the next hash value.
use Rattle.std.specs.Prelude.{ℕ, zero, suc, ◌+◌, ◌-◌, ◌*◌, List, [], ◌∷◌, ◌++◌, slice_index, slice_index_or}
use Rattle.sha256_core.specs.declared.State.{State}
use Rattle.sha256_core.specs.Words.{◌⊞◌, σ0, σ1}
use Rattle.sha256_core.specs.Round.{round_at, add_state}
use Rattle.slices.specs.Bytes.{word_at}

-- 5.2.1: n words from byte i on
unfoldable pub words_at : ℕ → List ℕ → ℕ → List ℕ
words_at zero m i = []
words_at (suc n) m i = words_at n m i ++ (word_at m (i + 4 * n) ∷ [])

-- 6.2.2, step 1: word t of the schedule, from the words before it
unfoldable pub next_word : List ℕ → ℕ → ℕ
next_word w t = σ1 (slice_index w (t - 2)) ⊞ slice_index_or w (t - 7) 0 ⊞ σ0 (slice_index w (t - 15)) ⊞ slice_index_or w (t - 16) 0

-- 6.2.2, step 1: the 16 words of a block and n words more
unfoldable pub schedule : ℕ → List ℕ → List ℕ
schedule zero b = b
schedule (suc n) b = schedule n b ++ (next_word (schedule n b) (16 + n) ∷ [])

-- 6.2.2, step 3: the first n rounds on a schedule
unfoldable pub rounds : ℕ → List ℕ → State → State
rounds zero w s = s
rounds (suc n) w s = round_at n w (rounds n w s)

-- 6.2.2, steps 1 to 4: the next hash value, from one block of 16 words
unfoldable pub compress_of : State → List ℕ → State
compress_of s b = add_state s (rounds 64 (schedule 48 b) s)
