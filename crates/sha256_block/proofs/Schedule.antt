-- A schedule filled word by word.
use Rattle.std.proofs.Common.{◌≡◌, ℕ, zero, suc, ◌+◌, ◌-◌, ◌<◌, ◌≤◌, List, length, take, refl, ◌∙◌, add-zero, add_assoc, add-suc, arith, length-set, get_or-take, take-suc-set}
use Rattle.sha256_block.specs.Block.{next_word, schedule}
use Rattle.sha256_block.specs.Inner.{steps, add_word, add_words}

-- the next word reads only words before it
next_take : (w : List ℕ) (k : ℕ) → 16 ≤ k → next_word (take k w) k ≡ next_word w k
unfolding next_word
next_take w k h =
    rw (
      get_or-take k w (k - 2) 0 (omega arith),
      get_or-take k w (k - 7) 0 (omega arith),
      get_or-take k w (k - 15) 0 (omega arith),
      get_or-take k w (k - 16) 0 (omega arith),
    )

-- one word more
add_word_lem : (n : ℕ) (w b : List ℕ) → 16 + n < length w → take (16 + n) w ≡ schedule n b
    → take (16 + suc n) (add_word (16 + n) w) ≡ schedule (suc n) b
unfolding add_word schedule
add_word_lem n w b h e =
    let s : 16 + suc n ≡ suc (16 + n) = omega arith in
    rw s (cc (take-suc-set w (16 + n) (next_word w (16 + n)) h, next_take w (16 + n) (omega arith)))

pub length_words : (k t : ℕ) (w : List ℕ) → length (add_words k t w) ≡ length w
unfolding steps add_word
length_words zero t w = refl
length_words (suc k) t w = length-set (add_words k t w) (t + k) (next_word (add_words k t w) (t + k)) ∙ length_words k t w

-- k words more
pub add_words_lem : (k n : ℕ) (w b : List ℕ) → 16 + (n + k) ≤ length w → take (16 + n) w ≡ schedule n b
    → take (16 + (n + k)) (add_words k (16 + n) w) ≡ schedule (n + k) b
unfolding steps
add_words_lem zero n w b h e = rw add-zero e
add_words_lem (suc k) n w b h e =
    rw (add-suc n k, add_assoc 16 n k)
    (add_word_lem (n + k) (add_words k (16 + n) w) b (omega (arith, length_words k (16 + n) w)) (add_words_lem k n w b (omega arith) e))
