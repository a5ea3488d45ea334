-- Laws of what words ask. Assumes nothing.
use Prim.Native.Nat.{ℕ, ◌<◌, ◌≤◌}
use mathlib.Core.Path.{◌≡◌, refl}
use mathlib.Core.List.{List, [], ◌∷◌}
use mathlib.Core.Bool.{true, false, and-false}
use borrow.Author.Tests.{le-leb, lt-leb}
use Rattle.slices.specs.Bytes.{same}
use Rattle.text.proofs.Laws.{either}
use Rattle.text.proofs.Laws.{within_is, within_not}
use Rattle.text.specs.Text.{within, number_within}
use Rattle.trial_words.specs.Words.{Asked, invoke, deliver, other, word_number, from_words}

-- a word's number where it is a byte
pub within_word : (w : List ℕ) → number_within 255 w ≡ within 255 (word_number w)
unfolding number_within
within_word w = refl

module _ (w v : List ℕ) where
  abbrev two : Asked
  two = from_words (w ∷ v ∷ [])

  pub deliver_yes : same w (68 ∷ []) ≡ true → 1 ≤ word_number v → word_number v ≤ 8 → two ≡ deliver (word_number v)
  unfolding from_words
  deliver_yes e f g = rw (e, le-leb 1 _ f, le-leb _ 8 g)

  pub deliver_word : same w (68 ∷ []) ≡ false → two ≡ other
  unfolding from_words
  deliver_word e = rw e

  pub deliver_low : word_number v < 1 → two ≡ other
  unfolding from_words
  deliver_low f = rw (lt-leb 1 _ f, and-false)

  pub deliver_high : 8 < word_number v → two ≡ other
  unfolding from_words
  deliver_high f = rw (lt-leb _ 8 f, and-false)

module _ (w v k c a : List ℕ) where
  abbrev five : Asked
  five = from_words (w ∷ v ∷ k ∷ c ∷ a ∷ [])

  pub invoke_yes :
      same w (73 ∷ []) ≡ true →
      1 ≤ word_number v →
      word_number v ≤ 8 →
      word_number k ≤ 255 →
      word_number c ≤ 255 →
      word_number a ≤ 255 →
      five ≡ invoke (word_number v) (word_number k) (word_number c) (word_number a)
  unfolding from_words
  invoke_yes e f g h i j = rw (e, le-leb 1 _ f, le-leb _ 8 g, le-leb _ 255 h, le-leb _ 255 i, le-leb _ 255 j)

  pub invoke_word : same w (73 ∷ []) ≡ false → five ≡ other
  unfolding from_words
  invoke_word e = rw e

  pub invoke_low : word_number v < 1 → five ≡ other
  unfolding from_words
  invoke_low f = rw (lt-leb 1 _ f, and-false)

  pub invoke_high : 8 < word_number v → five ≡ other
  unfolding from_words
  invoke_high f = rw (lt-leb _ 8 f, and-false)

  pub invoke_kind : 255 < word_number k → five ≡ other
  unfolding from_words
  invoke_kind f = rw (lt-leb _ 255 f, and-false)

  pub invoke_cell : 255 < word_number c → five ≡ other
  unfolding from_words
  invoke_cell f = rw (lt-leb (word_number c) 255 f, and-false)

  pub invoke_amount : 255 < word_number a → five ≡ other
  unfolding from_words
  invoke_amount f = rw (lt-leb (word_number a) 255 f, and-false)

-- what words ask, test by test
pub ruleset word_steps = (within_word, within_is, within_not, deliver_yes, deliver_word, deliver_low, deliver_high, invoke_yes, invoke_word, invoke_low, invoke_high, invoke_kind, invoke_cell, invoke_amount)
