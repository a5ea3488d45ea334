-- What the words of a line of input ask (document 01, "Cases").
use Rattle.std.specs.Prelude.{ℕ, List, [], ◌∷◌, cond, ◌&&◌, leb}
use Rattle.slices.specs.Bytes.{same}
use Rattle.message.specs.Layout.{client_count}
use Rattle.text.specs.Text.{number_of}
use Rattle.trial_words.specs.declared.Command.{Command}
use Rattle.trial_words.specs.declared.Command.TheVariants as C

-- "I van kind cell amount, or D van", "A line of another form"
pub data Asked : Type 0 where
  invoke : ℕ → ℕ → ℕ → ℕ → Asked
  deliver : ℕ → Asked
  other : Asked

-- the values of the enum's cases
abbrev pub asked : Command → Asked
asked (C.Invoke v k c a) = invoke v k c a
asked (C.Deliver v) = deliver v
asked C.Other = other

-- a word's number: 256 for one above 255 and for what is no number
abbrev pub word_number : List ℕ → ℕ
word_number w = number_of 256 w

-- "A line of another form, or with a van not 1 to 8 or a number above 255"; `I` is byte 73, `D` byte 68
unfoldable pub from_words : List (List ℕ) → Asked
from_words [] = other
from_words (w ∷ []) = other
from_words (w ∷ v ∷ []) = cond (same w (68 ∷ []) && leb 1 (word_number v) && leb (word_number v) client_count) (deliver (word_number v)) other
from_words (w ∷ v ∷ k ∷ []) = other
from_words (w ∷ v ∷ k ∷ c ∷ []) = other
from_words (w ∷ v ∷ k ∷ c ∷ a ∷ []) =
    cond (same w (73 ∷ []) && leb 1 (word_number v) && leb (word_number v) client_count && leb (word_number k) 255 && leb (word_number c) 255 && leb (word_number a) 255)
    (invoke (word_number v) (word_number k) (word_number c) (word_number a))
    other
from_words (w ∷ v ∷ k ∷ c ∷ a ∷ x ∷ ws) = other
