-- Worked cases, by computing. Assumes nothing.
use Prim.Native.Nat.{ℕ}
use mathlib.Core.Path.{◌≡◌, refl}
use mathlib.Core.List.{List, [], ◌∷◌, ◌++◌}
use Rattle.slices.specs.Bytes.{all, same}
use Rattle.text.specs.Text.{on_first, cut, number_of, horner, digits, decimal_of}
use Rattle.operation.specs.Operation.{signed}
use Rattle.log_lines.specs.Lines.{less_return}
use Rattle.log_quotes.specs.Quotes.{by_mark, move, may_end, sound_from, in_first, split}
use Rattle.log_names.specs.Names.{times, column}
use Rattle.log_number.specs.Number.{number, warm, cold, temperature}
use Rattle.log_columns.specs.Columns.{cell_name, flow_name, temp_name, header_ok, columns_of}
use Rattle.meter_log.specs.Reading.{header_of}
use Rattle.meter_log.specs.Reading.{reading_of, line_ok, read_columns, read_line}
use Rattle.meter_log_told.specs.Told.{tell_header, tell_reading, tell_line, tell_whole, tell_last}
use Rattle.meter_log_put.specs.Text.{op_text, told_text, told_bytes}
use Rattle.meter_log_lines.specs.Printed.{run_last, run_input, printed_of}

-- what is printed, with all that this computes with
unfoldable prints : List ℕ → List ℕ
unfolding
    cut on_first less_return read_line header_of header_ok columns_of read_columns line_ok reading_of number warm cold temperature number_of horner digits decimal_of
    all same times column split sound_from move by_mark may_end in_first signed tell_header tell_reading tell_line tell_whole tell_last op_text told_text told_bytes run_last run_input
    printed_of
prints t = printed_of t

-- `cell,flow,temp`
abbrev names : List ℕ
names = cell_name ++ (44 ∷ flow_name) ++ (44 ∷ temp_name)

-- `1 header` and a line feed
abbrev header : List ℕ
header = 49 ∷ 32 ∷ 104 ∷ 101 ∷ 97 ∷ 100 ∷ 101 ∷ 114 ∷ 10 ∷ []

-- for `cell,flow,temp`, `3,120,-12` and `99,1,1`, the last without a line feed, are printed `1 header`, `2 5 3 120 -12` and `3 no 42`
some-log :
    printed_of
    (names ++ (10 ∷ 51 ∷ 44 ∷ 49 ∷ 50 ∷ 48 ∷ 44 ∷ 45 ∷ 49 ∷ 50 ∷ 10 ∷ 57 ∷ 57 ∷ 44 ∷ 49 ∷ 44 ∷ 49 ∷ []))
    ≡ header ++ (50 ∷ 32 ∷ 53 ∷ 32 ∷ 51 ∷ 32 ∷ 49 ∷ 50 ∷ 48 ∷ 32 ∷ 45 ∷ 49 ∷ 50 ∷ 10 ∷ 51 ∷ 32 ∷ 110 ∷ 111 ∷ 32 ∷ 52 ∷ 50 ∷ 10 ∷ [])
unfolding prints
some-log = refl

-- for `cell` CR LF, LF and `1` LF, whose first line names no columns, `no 40` three times, as lines 1 to 3
no_names :
    printed_of (cell_name ++ (13 ∷ 10 ∷ 10 ∷ 49 ∷ 10 ∷ []))
    ≡ (49 ∷ 32 ∷ 110 ∷ 111 ∷ 32 ∷ 52 ∷ 48 ∷ 10 ∷ [])
    ++ (50 ∷ 32 ∷ 110 ∷ 111 ∷ 32 ∷ 52 ∷ 48 ∷ 10 ∷ [])
    ++ (51 ∷ 32 ∷ 110 ∷ 111 ∷ 32 ∷ 52 ∷ 48 ∷ 10 ∷ [])
unfolding prints
no_names = refl

-- and for no bytes, none
no_bytes : printed_of [] ≡ []
unfolding prints
no_bytes = refl
