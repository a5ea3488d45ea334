-- Internal: what the test by one part of the operations promises. Not to be read for what a conflict is.
use Rattle.std.specs.Prelude.{Bool, true, false, cond, not, ◌||◌, List, eqb}
use Rattle.operation.specs.declared.Operation.{Operation}
use Rattle.conflict_numbers.specs.Numbers.{parts}
use Rattle.conflict_parts.specs.declared.Part.{Part}
use Rattle.conflict_parts.specs.declared.Part.TheVariants.{Values, Temps}

-- What an operation is to temperatures, as one on numbers: kind 5 a set (kind 4) of the cell's number to the last byte, and kind 6 a read (kind 3) of it.
unfoldable pub temp_part : Operation → Operation
temp_part e =
    record {
      count = e.count;
      kind = cond (eqb e.kind 5) 4 3;
      cell = e.cell;
      amount = cond (eqb e.kind 5) e.last 0;
      last = 0;
    }

-- Whether an operation is anything to the values (false) or to the temperatures (true) of the cells, what it is to them, and the operations by these parts.
-- Kind 6 leaves every value and answers by none; kinds 5 and 6 alone are about temperatures.
abbrev pub has_part : Bool → Operation → Bool
has_part temps e = cond temps (eqb e.kind 5 || eqb e.kind 6) (not (eqb e.kind 6))

abbrev pub part_of : Bool → Operation → Operation
part_of temps e = cond temps (temp_part e) e

abbrev pub parts_of : Bool → List Operation → List Operation
parts_of temps = parts (has_part temps) (part_of temps)

-- Which of the two a part is.
abbrev pub is_temps : Part → Bool
is_temps Values = false
is_temps Temps = true
