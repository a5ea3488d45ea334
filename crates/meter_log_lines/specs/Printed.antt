-- What the program prints for a whole input.
use Rattle.std.specs.Prelude.{ℕ, List, [], ◌∷◌, cond}
use Rattle.text.specs.Text.{cut, non_empty}
use Rattle.meter_log_told.specs.declared.Log.TheVariants as L
use Rattle.meter_log_told.specs.Told.{tell_whole, tell_last}
use Rattle.meter_log_lines.specs.Lines.{Run, advance, run_whole}

-- after the last line feed there may be one line more, which ends with the input
unfoldable pub run_last : Run → List ℕ → Run
run_last w p = cond (non_empty p) (advance w (tell_last w.log p)) w

unfoldable pub run_input : Run → List (List ℕ) → Run
run_input w [] = w
run_input w (p ∷ []) = run_last w p
run_input w (p ∷ q ∷ ps) = run_input (advance w (tell_whole w.log p)) (q ∷ ps)

-- before the first line
abbrev pub at_start : Run
at_start = record { log = L.Start; number = 0; printed = [] }

-- a line for each of the input's lines
unfoldable pub printed_of : List ℕ → List ℕ
printed_of t = (run_input at_start (cut 10 t)).printed

-- the pieces that a line feed ends: all but the last
unfoldable pub fed : List (List ℕ) → List (List ℕ)
fed [] = []
fed (p ∷ []) = []
fed (p ∷ q ∷ ps) = p ∷ fed (q ∷ ps)

-- the same of an input that may go on: what stands after its last line feed is not told
unfoldable pub printed_whole : List ℕ → List ℕ
printed_whole t = (run_whole at_start (fed (cut 10 t))).printed
