-- A whole log: document 02, Q-5.
use Rattle.std.specs.Prelude.{ℕ, List, [], ◌∷◌}
use Rattle.log_lines.specs.Lines.{lines}
use Rattle.meter_log.specs.Reading.{Header, Reading, header_of, read_line}

-- what each line comes to under a first line
unfoldable pub read_all : Header → List (List ℕ) → List Reading
read_all h [] = []
read_all h (l ∷ ls) = read_line h l ∷ read_all h ls

-- "The first line names columns." "Each later line becomes one kind 5 entry"
unfoldable pub read_lines : List (List ℕ) → List Reading
read_lines [] = []
read_lines (h ∷ ls) = read_all (header_of h) ls

unfoldable pub read_log : List ℕ → List Reading
read_log t = read_lines (lines t)
