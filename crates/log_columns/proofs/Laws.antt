-- A first line that passes check 40: it is sound, and at each column the name stands. Assumes nothing.
use Prim.Native.Nat.{ℕ}
use mathlib.Core.Path.{◌≡◌}
use mathlib.Core.List.{List, []}
use mathlib.Core.Bool.{true, not, ◌&&◌}
use native.Mathlib.Omega.{arith}
use lib.ListN.{length, get_or}
use lib.Dec.{eqb}
use borrow.Author.Tests.{eq-eqb, ne_eqb, eqb-true}
use Rattle.slices.proofs.Laws.{and_yes}
use Rattle.text.proofs.Laws.{either}
use Rattle.log_quotes.specs.Quotes.{start, fields, sound, field_count}
use Rattle.log_quotes.proofs.Walk.{split-some}
use Rattle.log_names.specs.Names.{times, column}
use Rattle.log_names.proofs.Walk.{column_name}
use Rattle.log_columns.specs.Columns.{cell_name, flow_name, temp_name, once, header_ok, columns_of}

-- ---- the count of the fields tells whether a line is sound
module _ (l : List ℕ) (n : ℕ) (e : n ≡ field_count l) where
  pub count-sound : not (eqb n 0) ≡ sound l
  unfolding field_count
  count-sound =
      either (sound l)
      (λ t. let g : n ≡ length (fields l) = rw t at e in rw (t, ne_eqb n 0 (λ z. omega (arith, z, g, split-some start l))))
      (λ t. let g : n ≡ 0 = rw t at e in rw (t, eq-eqb n 0 g))

  pub count-fields : sound l ≡ true → n ≡ length (fields l)
  unfolding field_count
  count-fields t = rw t at e

-- ---- a first line that passes
-- a name that stands once is the field at its column
once_name : (name h : List ℕ) → once name h ≡ true → get_or (fields h) (column name (fields h)) [] ≡ name
once_name name h e = column_name name (fields h) (omega (arith, eqb-true (times name (fields h)) 1 e))

module _ (h : List ℕ) (e : header_ok h ≡ true) where
  temp-once : ((sound h && once cell_name h && once flow_name h) ≡ true) × (once temp_name h ≡ true)
  unfolding header_ok
  temp-once = and_yes (sound h && once cell_name h && once flow_name h) (once temp_name h) e

  flow-once : ((sound h && once cell_name h) ≡ true) × (once flow_name h ≡ true)
  flow-once = and_yes (sound h && once cell_name h) (once flow_name h) temp-once.0

  cell-once : (sound h ≡ true) × (once cell_name h ≡ true)
  cell-once = and_yes (sound h) (once cell_name h) flow-once.0

  pub head_sound : sound h ≡ true
  head_sound = cell-once.0

  -- the field at each column is its name
  pub cell-named : get_or (fields h) (columns_of h).cell [] ≡ cell_name
  unfolding columns_of
  cell-named = once_name cell_name h cell-once.1

  pub flow-named : get_or (fields h) (columns_of h).flow [] ≡ flow_name
  unfolding columns_of
  flow-named = once_name flow_name h flow-once.1

  pub temp-named : get_or (fields h) (columns_of h).temp [] ≡ temp_name
  unfolding columns_of
  temp-named = once_name temp_name h temp-once.1
