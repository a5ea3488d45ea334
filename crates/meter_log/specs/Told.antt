-- What a line of the log is told: document 02's numbers and values for each case of the enums.
use Rattle.std.specs.Prelude.{ℕ, List, cond, Some, None, Ok, Err}
use Rattle.operation.specs.declared.Operation.{Operation}
use Rattle.log_number.specs.Number.{number, temperature}
use Rattle.log_entry.specs.Entry.{in_ranges, reported}
use Rattle.log_columns.specs.declared.Columns.{Columns}
use Rattle.log_columns.specs.Columns.{header_ok, columns_of}
use Rattle.log_values.specs.Values.{under}
use Rattle.meter_log.specs.Reading.{Header, Reading, refusal_no, line_ok}

-- the columns that a first line names, the entry that a later one becomes, the number of a check that one does not pass
pub data Told : Type 0 where
  named : Columns → Told
  made : Operation → Told
  refused : ℕ → Told

abbrev pub header_told : Header → Told
header_told (Some c) = named c
header_told None = refused 40

abbrev pub reading_told : Reading → Told
reading_told (Ok e) = made e
reading_told (Err why) = refused (refusal_no why)

-- "40 first, unless the first line …"
unfoldable pub first_told : List ℕ → Told
first_told h = cond (header_ok h) (named (columns_of h)) (refused 40)

-- "42 last, unless each of the three fields is an unquoted whole decimal number in its range"
unfoldable pub values_told : ℕ → ℕ → ℕ → Told
values_told cell flow last = cond (in_ranges cell flow last) (made (reported cell flow last)) (refused 42)

-- "41 next, unless the line is soundly quoted and has as many fields as the first"
unfoldable pub columns_told : Columns → List ℕ → Told
columns_told c l =
    cond (line_ok c l) (values_told (number (under l c.cell)) (number (under l c.flow)) (temperature (under l c.temp))) (refused 41)

-- a line under a first line: "40 first …; 41 next …; 42 last"
unfoldable pub line_told : Header → List ℕ → Told
line_told None l = refused 40
line_told (Some c) l = columns_told c l
