-- What an input prints, in bytes.
use Rattle.std.specs.Prelude.{ℕ, ◌+◌, List, [], ◌∷◌, ◌++◌, map, cond, leb, length}
use Rattle.text.specs.Text.{non_empty}
use Rattle.trial_said.specs.Word.{Word}
use Rattle.trial_print.specs.Line.{line_bytes}
use Rattle.trial_core.specs.Trial.{start_trial, start_lent}
use Rattle.trial_lines.specs.Lines.{Run, run_lines, lines_of}

-- "one line each: line number, van, word, data", the first with number n + 1
unfoldable pub numbered : ℕ → List (ℕ × Word) → List ℕ
numbered n [] = []
numbered n (p ∷ more) = line_bytes (n + 1) p.0 p.1 ++ numbered (n + 1) more

-- a line as it counts: one of 65,536 bytes or more as an empty one, which is of another form
unfoldable pub line_of : List ℕ → List ℕ
line_of l = cond (leb 65536 (length l)) [] l

-- of the pieces between line feeds, those that one ends: all but the last
unfoldable pub ended : List (List ℕ) → List (List ℕ)
ended [] = []
ended (p ∷ []) = []
ended (p ∷ q ∷ ps) = p ∷ ended (q ∷ ps)

-- and the last, where it has a byte
unfoldable pub counted : List (List ℕ) → List (List ℕ)
counted [] = []
counted (p ∷ []) = cond (non_empty p) (p ∷ []) []
counted (p ∷ q ∷ ps) = p ∷ counted (q ∷ ps)

-- lines answered from the start
unfoldable pub run_of : List (List ℕ) → Run
run_of ls = run_lines (record { trial = start_trial; lent = start_lent; number = 0; printed = [] }) (map line_of ls)

-- what an input prints: all its lines, the last without a line feed included
unfoldable pub printed_of : List ℕ → List ℕ
printed_of input = (run_of (counted (lines_of input))).printed

-- what its whole lines print: what stands after the last line feed is not yet a line
unfoldable pub printed_whole : List ℕ → List ℕ
printed_whole input = (run_of (ended (lines_of input))).printed
