-- A line of output (document 01, "Cases").
use Rattle.std.specs.Prelude.{ℕ, List, [], ◌∷◌, ◌++◌}
use Rattle.text.specs.Text.{decimal_of}
use Rattle.text_put.specs.Datum.{datum}
use Rattle.trial_said.specs.Word.{Word, word_bytes}

-- "one line each: line number, van, word, data", and a line feed
unfoldable pub line_bytes : ℕ → ℕ → Word → List ℕ
line_bytes number van said = decimal_of number ++ datum van ++ (32 ∷ []) ++ word_bytes said ++ (10 ∷ [])
