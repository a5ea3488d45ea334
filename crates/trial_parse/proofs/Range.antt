-- What a line can ask: `parse` gives a van from 1 to 8, and numbers of at most 255. Assumes nothing.
use Prim.Native.Nat.{ℕ, ◌≤◌}
use mathlib.Core.Path.{◌≡◌}
use mathlib.Core.List.{List, [], ◌∷◌}
use mathlib.Core.Bool.{Bool, true, ◌&&◌}
use lib.Dec.{leb}
use borrow.Author.Tests.{leb-true}
use Rattle.slices.specs.Bytes.{same}
use Rattle.slices.proofs.Laws.{and_yes}
use Rattle.text.specs.Text.{cut}
use Rattle.text.proofs.Laws.{either}
use Rattle.trial_words.specs.Words.{Asked, invoke, deliver, other, word_number, from_words}
use Rattle.trial_parse.specs.Parse.{parse}

-- "a van not 1 to 8 or a number above 255" is in no command
pub data InRange : Asked → Type 0 where
  invoke_in_lem : {v k c a : ℕ} → 1 ≤ v → v ≤ 8 → k ≤ 255 → c ≤ 255 → a ≤ 255 → InRange (invoke v k c a)
  deliver_in_lem : {v : ℕ} → 1 ≤ v → v ≤ 8 → InRange (deliver v)
  other_in : InRange other

-- the tests of a line of five words
abbrev words_fit : Bool → ℕ → ℕ → ℕ → ℕ → Bool
words_fit b v k c a = b && leb 1 v && leb v 8 && leb k 255 && leb c 255 && leb a 255

invoke-most : (b : Bool) (v k c a : ℕ) → words_fit b v k c a ≡ true → (v ≤ 8) × (k ≤ 255) × (c ≤ 255) × (a ≤ 255)
invoke-most b v k c a e =
    let h₁ = and_yes (b && leb 1 v && leb v 8 && leb k 255 && leb c 255) (leb a 255) e in
    let h₂ = and_yes (b && leb 1 v && leb v 8 && leb k 255) (leb c 255) h₁.0 in
    let h₃ = and_yes (b && leb 1 v && leb v 8) (leb k 255) h₂.0 in
    let h₄ = and_yes (b && leb 1 v) (leb v 8) h₃.0 in
    (leb-true _ _ h₄.1, leb-true _ _ h₃.1, leb-true _ _ h₂.1, leb-true _ _ h₁.1)

van_in : (b : Bool) (v : ℕ) → (b && leb 1 v && leb v 8) ≡ true → (1 ≤ v) × (v ≤ 8)
van_in b v e =
    let h = and_yes (b && leb 1 v) (leb v 8) e in
    (leb-true _ _ (and_yes b (leb 1 v) h.0).1, leb-true _ _ h.1)

invoke-low : (b : Bool) (v k c a : ℕ) → words_fit b v k c a ≡ true → 1 ≤ v
invoke-low b v k c a e =
    let h₁ = and_yes (b && leb 1 v && leb v 8 && leb k 255 && leb c 255) (leb a 255) e in
    let h₂ = and_yes (b && leb 1 v && leb v 8 && leb k 255) (leb c 255) h₁.0 in
    let h₃ = and_yes (b && leb 1 v && leb v 8) (leb k 255) h₂.0 in
    (van_in b v h₃.0).0

words_range : (ws : List (List ℕ)) → InRange (from_words ws)
unfolding from_words
words_range [] = other_in
words_range (w ∷ []) = other_in
words_range (w ∷ v ∷ []) =
    either (same w (68 ∷ []) && leb 1 (word_number v) && leb (word_number v) 8)
    (λ e. let h = van_in (same w (68 ∷ [])) (word_number v) e in rw e (deliver_in_lem h.0 h.1))
    (λ e. rw e other_in)
words_range (w ∷ v ∷ k ∷ []) = other_in
words_range (w ∷ v ∷ k ∷ c ∷ []) = other_in
words_range (w ∷ v ∷ k ∷ c ∷ a ∷ []) =
    either (words_fit (same w (73 ∷ [])) (word_number v) (word_number k) (word_number c) (word_number a))
    (λ e.
    let h = invoke-most (same w (73 ∷ [])) (word_number v) (word_number k) (word_number c) (word_number a) e in
    rw e (invoke_in_lem (invoke-low (same w (73 ∷ [])) (word_number v) (word_number k) (word_number c) (word_number a) e) h.0 h.1 h.2 h.3))
    (λ e. rw e other_in)
words_range (w ∷ v ∷ k ∷ c ∷ a ∷ x ∷ ws) = other_in

pub parse_range : (line : List ℕ) → InRange (parse line)
unfolding parse
parse_range line = words_range (cut 32 line)
