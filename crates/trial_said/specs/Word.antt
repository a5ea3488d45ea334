-- What a line of input gives: a word and its data (document 01, "Cases").
use Rattle.std.specs.Prelude.{ℕ, List, [], ◌∷◌, ◌++◌}
use Rattle.operation.specs.Operation.{Response}
use Rattle.text_put.specs.Datum.{datum, signed_datum}
use Rattle.trial_said.specs.declared.LineWord.{LineWord}
use Rattle.trial_said.specs.declared.LineWord.TheVariants as S

-- "word, data (placed place; answer place answer; aside place; confirm place status; empty; no or halt number)", "bad", "full"
pub data Word : Type 0 where
  placed : ℕ → Word
  answer : ℕ → Response → Word
  aside : ℕ → Word
  confirm : ℕ → ℕ → Word
  empty : Word
  nay : ℕ → Word
  halt : ℕ → Word
  bad : Word
  full : Word

-- the values of the enum's cases
abbrev pub word_of : LineWord → Word
word_of (S.Placed p) = placed p
word_of (S.Answer p a) = answer p a
word_of (S.Aside p) = aside p
word_of (S.Confirm p s) = confirm p s
word_of S.Empty = empty
word_of (S.No n) = nay n
word_of (S.Halt n) = halt n
word_of S.Bad = bad
word_of S.Full = full

-- the word in ASCII, and its data
unfoldable pub word_bytes : Word → List ℕ
word_bytes (placed p) = (112 ∷ 108 ∷ 97 ∷ 99 ∷ 101 ∷ 100 ∷ []) ++ datum p
word_bytes (answer p a) = (97 ∷ 110 ∷ 115 ∷ 119 ∷ 101 ∷ 114 ∷ []) ++ datum p ++ signed_datum a
word_bytes (aside p) = (97 ∷ 115 ∷ 105 ∷ 100 ∷ 101 ∷ []) ++ datum p
word_bytes (confirm p s) = (99 ∷ 111 ∷ 110 ∷ 102 ∷ 105 ∷ 114 ∷ 109 ∷ []) ++ datum p ++ datum s
word_bytes empty = 101 ∷ 109 ∷ 112 ∷ 116 ∷ 121 ∷ []
word_bytes (nay n) = (110 ∷ 111 ∷ []) ++ datum n
word_bytes (halt n) = (104 ∷ 97 ∷ 108 ∷ 116 ∷ []) ++ datum n
word_bytes bad = 98 ∷ 97 ∷ 100 ∷ []
word_bytes full = 102 ∷ 117 ∷ 108 ∷ 108 ∷ []
