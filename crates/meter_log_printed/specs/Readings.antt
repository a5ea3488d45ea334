-- What the program prints, in terms of what the log comes to.
use Rattle.std.specs.Prelude.{ℕ, ◌+◌, List, [], ◌∷◌, ◌++◌, Bool, true, not, ◌&&◌}
use Rattle.text.specs.Text.{cut}
use Rattle.log_lines.specs.Lines.{lines}
use Rattle.meter_log.specs.Reading.{Reading, header_of}
use Rattle.meter_log.specs.Log.{read_all}
use Rattle.meter_log_told.specs.Told.{tell_header, tell_reading, is_long}
use Rattle.meter_log_put.specs.Text.{told_bytes}

-- no line is over-long
unfoldable pub none_long : List (List ℕ) → Bool
none_long [] = true
none_long (p ∷ ps) = not (is_long p) && none_long ps

abbrev pub short : List ℕ → Bool
short t = none_long (cut 10 t)

-- a line for each reading, after n lines
unfoldable pub readings_text : ℕ → List Reading → List ℕ
readings_text n [] = []
readings_text n (r ∷ rs) = told_bytes (n + 1) (tell_reading r) ++ readings_text (n + 1) rs

-- a line for the header, and one for each reading under it
unfoldable pub lines_text : List (List ℕ) → List ℕ
lines_text [] = []
lines_text (h ∷ ls) = told_bytes 1 (tell_header (header_of h)) ++ readings_text 1 (read_all (header_of h) ls)

abbrev pub log_text : List ℕ → List ℕ
log_text t = lines_text (lines t)
