-- A line of the meters' log by the column names of the first: document 02, Q-5.
use Rattle.std.specs.Prelude.{ℕ, List, Bool, cond, ◌&&◌, length, eqb, Option, Some, None, Result, Ok, Err}
use Rattle.operation.specs.declared.Operation.{Operation}
use Rattle.log_quotes.specs.Quotes.{fields, sound}
use Rattle.log_number.specs.Number.{number, temperature}
use Rattle.log_entry.specs.Entry.{in_ranges, reported, entry}
use Rattle.log_columns.specs.declared.Columns.{Columns}
use Rattle.log_columns.specs.Columns.{header_ok, columns_of}
use Rattle.log_values.specs.Values.{under}
use Rattle.meter_log.specs.declared.Refusal.{Refusal}
use Rattle.meter_log.specs.declared.Refusal.TheVariants as N

-- what a first line comes to: the columns that it names, if it passes 40
abbrev pub Header : Type 0
Header = Option Columns

-- what a later line comes to
abbrev pub Reading : Type 0
Reading = Result Operation Refusal

-- the checks' numbers
abbrev pub refusal_no : Refusal → ℕ
refusal_no N.Header = 40
refusal_no N.Fields = 41
refusal_no N.Number = 42

-- the first line: its columns, where it passes 40
unfoldable pub header_of : List ℕ → Header
header_of h = cond (header_ok h) (Some (columns_of h)) None

-- ---- a later line
-- 42 "unless each of the three fields is an unquoted whole decimal number in its range"
unfoldable pub reading_of : ℕ → ℕ → ℕ → Reading
reading_of cell flow last = cond (in_ranges cell flow last) (Ok (reported cell flow last)) (Err N.Number)

-- the entry, where each of three values is there and in its range
unfoldable pub entry_found : Option ℕ → Option ℕ → Option ℕ → Option Operation
entry_found None y z = None
entry_found (Some cell) None z = None
entry_found (Some cell) (Some flow) None = None
entry_found (Some cell) (Some flow) (Some last) = entry cell flow last

-- 41 "unless the line is soundly quoted and has as many fields as the first"
unfoldable pub line_ok : Columns → List ℕ → Bool
line_ok c l = sound l && eqb (length (fields l)) c.count

-- the values under the columns, of a line that passes
unfoldable pub read_columns : Columns → List ℕ → Reading
read_columns c l =
    cond (line_ok c l) (reading_of (number (under l c.cell)) (number (under l c.flow)) (temperature (under l c.temp))) (Err N.Fields)

-- A line under a first line: "40 first …; 41 next …; 42 last".
unfoldable pub read_line : Header → List ℕ → Reading
read_line None l = Err N.Header
read_line (Some c) l = read_columns c l
