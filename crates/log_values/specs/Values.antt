-- The values of a line under the columns: document 02, Q-5.
use Rattle.std.specs.Prelude.{ℕ, List, [], cond, length, get_or, Option, Some, None}
use Rattle.text.specs.Text.{within}
use Rattle.log_quotes.specs.Quotes.{fields, sound}
use Rattle.log_number.specs.Number.{number, temperature}
use Rattle.log_columns.specs.declared.Columns.{Columns}
use Rattle.log_values.specs.declared.Values.{Values}

-- the field under a column
abbrev pub under : List ℕ → ℕ → List ℕ
under l k = get_or (fields l) k []

-- what the walk over a line finds under columns c: how many fields it has, a number of three digits or none, a temperature's byte or none
abbrev pub found : Columns → List ℕ → Values
found c l =
    record {
      fields = length (fields l);
      cell = within 999 (number (under l c.cell));
      flow = within 999 (number (under l c.flow));
      last = within 255 (temperature (under l c.temp));
    }

-- in a sound line
unfoldable pub values_of : Columns → List ℕ → Option Values
values_of c l = cond (sound l) (Some (found c l)) None
