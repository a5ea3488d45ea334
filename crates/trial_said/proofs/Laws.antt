-- A line's word, by what is said. Assumes nothing.
use Prim.Native.Nat.{ℕ, ◌+◌, ◌≤◌}
use mathlib.Core.Path.{◌≡◌}
use mathlib.Core.List.{List}
use lib.ListN.{length}
use Rattle.slices.specs.Bytes.{put}
use Rattle.trial_said.specs.declared.LineWord.{LineWord}
use Rattle.trial_said.specs.Word.{word_of, word_bytes}

pub said_is :
    (z y : List ℕ) (at q : ℕ) (s t : LineWord) →
    s ≡ t →
    q ≡ at + length (word_bytes (word_of t)) →
    y ≡ put z at (word_bytes (word_of t)) →
    q ≤ at + 29 →
    (q ≡ at + length (word_bytes (word_of s))) × (y ≡ put z at (word_bytes (word_of s))) × (q ≤ at + 29)
said_is z y at q s t k a b h = rw k (a, b, h)
