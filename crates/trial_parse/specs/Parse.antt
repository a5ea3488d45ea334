-- A line of input: the words between its spaces (document 01, "Cases").
use Rattle.std.specs.Prelude.{ℕ, List}
use Rattle.text.specs.Text.{cut}
use Rattle.trial_words.specs.Words.{Asked, from_words}

-- the words between the spaces (byte 32)
unfoldable pub parse : List ℕ → Asked
parse line = from_words (cut 32 line)
