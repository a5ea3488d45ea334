-- An over-long line is of another form, so that it is answered `bad`; so is the line that is held for it. Assumes nothing.
use Prim.Native.Nat.{ℕ, ◌≤◌, ◌<◌}
use mathlib.Core.Path.{◌≡◌, refl, sym, ◌∙◌}
use mathlib.Core.List.{List, [], ◌∷◌, ◌++◌}
use borrow.Author.Tests.{le-leb, lt-leb}
use lib.ListN.{length}
use Rattle.slices.specs.Bytes.{same}
use Rattle.text.specs.Text.{on_first, cut}
use Rattle.trial_words.specs.Words.{other, from_words}
use Rattle.trial_parse.specs.Parse.{parse}
use Rattle.trial_io.specs.Printed.{line_of}

nul-word : (ws : List (List ℕ)) → from_words (on_first 0 ws) ≡ other
unfolding from_words on_first same
nul-word [] = refl
nul-word (w ∷ []) = refl
nul-word (w ∷ v ∷ []) = refl
nul-word (w ∷ v ∷ k ∷ []) = refl
nul-word (w ∷ v ∷ k ∷ c ∷ []) = refl
nul-word (w ∷ v ∷ k ∷ c ∷ a ∷ []) = refl
nul-word (w ∷ v ∷ k ∷ c ∷ a ∷ x ∷ ws) = refl

-- a NUL byte and whatever follows
pub nul-line : (more : List ℕ) → parse (0 ∷ more) ≡ other
unfolding parse cut
nul-line more = nul-word (cut 32 more)

no_line : parse [] ≡ other
unfolding parse cut from_words
no_line = refl

pub line-long : (l : List ℕ) → 65536 ≤ length l → line_of l ≡ []
unfolding line_of
line-long l h = rw (le-leb 65536 (length l) h)

pub line-short : (l : List ℕ) → length l < 65536 → line_of l ≡ l
unfolding line_of
line-short l h = rw (lt-leb 65536 (length l) h)

-- an over-long line, whatever its bytes are
pub over_long_other : (l : List ℕ) → 65536 ≤ length l → parse (line_of l) ≡ other
over_long_other l h = rw (line-long l h) no_line

-- what is held for it, with what follows, asks the same
pub over_long-held : (l more : List ℕ) → 65536 ≤ length l → parse (line_of l) ≡ parse (0 ∷ more)
over_long-held l more h = over_long_other l h ∙ sym (nul-line more)
