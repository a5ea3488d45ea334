-- The columns that the first line names: document 02, Q-5.
use Rattle.std.specs.Prelude.{ℕ, List, [], ◌∷◌, Bool, ◌&&◌, length, eqb}
use Rattle.log_quotes.specs.Quotes.{fields, sound}
use Rattle.log_names.specs.Names.{times, column}
use Rattle.log_columns.specs.declared.Columns.{Columns}

-- "`cell`, `flow` and `temp`"
abbrev pub cell_name : List ℕ
cell_name = 99 ∷ 101 ∷ 108 ∷ 108 ∷ []

abbrev pub flow_name : List ℕ
flow_name = 102 ∷ 108 ∷ 111 ∷ 119 ∷ []

abbrev pub temp_name : List ℕ
temp_name = 116 ∷ 101 ∷ 109 ∷ 112 ∷ []

abbrev pub once : List ℕ → List ℕ → Bool
once name h = eqb (times name (fields h)) 1

-- 40 "unless the first line is soundly quoted and has each of the three names once, unquoted and byte for byte"
unfoldable pub header_ok : List ℕ → Bool
header_ok h = sound h && once cell_name h && once flow_name h && once temp_name h

-- how many fields a later line must have, and where its three values stand
unfoldable pub columns_of : List ℕ → Columns
columns_of h =
    record {
      count = length (fields h);
      cell = column cell_name (fields h);
      flow = column flow_name (fields h);
      temp = column temp_name (fields h);
    }
