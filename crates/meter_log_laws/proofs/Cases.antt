-- Worked cases, by computing; among them, for each assumption of `text_same`, a column that meets all the others and changes what a
-- line comes to. Assumes nothing.
use Prim.Native.Nat.{ℕ, zero, suc}
use mathlib.Core.Path.{◌≡◌, refl}
use mathlib.Core.List.{List, [], ◌∷◌, ◌++◌}
use mathlib.Core.Bool.{Bool, true, false, not}
use lib.ListN.{set, replicate}
use borrow.Author.Tests.{not-true}
use Rattle.std.specs.Prelude.{Ok, Err}
use Rattle.slices.specs.Bytes.{all, same}
use Rattle.text.specs.Text.{on_first, cut, number_of, horner}
use Rattle.log_lines.specs.Lines.{less_return, piece_lines, lines}
use Rattle.log_quotes.specs.Quotes.{start, by_mark, move, may_end, sound_from, in_first, split, sound, fields}
use Rattle.log_names.specs.Names.{times, column}
use Rattle.meter_log.specs.declared.Refusal.TheVariants as N
use Rattle.log_number.specs.Number.{number, warm, cold, temperature}
use Rattle.log_entry.specs.Entry.{reported}
use Rattle.log_columns.specs.Columns.{cell_name, flow_name, temp_name, header_ok, columns_of}
use Rattle.meter_log.specs.Reading.{Reading, header_of}
use Rattle.meter_log.specs.Reading.{reading_of, line_ok, read_columns, read_line}
use Rattle.meter_log.specs.Log.{read_all, read_lines, read_log}
use Rattle.meter_log_laws.specs.Grammar.{Field}
use Rattle.meter_log_laws.specs.Added.{insert_at, comma_each, join, add_at, return_of, add_pieces, glue, add_text, no_return, no_feed, Column}
use Rattle.meter_log_laws.proofs.Put.{clean}
use Rattle.meter_log_laws.proofs.Grammar.{clean_field}

-- ---- fields and lines
-- `a,"b,""c",` has the three fields a, "b,""c" and the empty one
three_fields : fields (97 ∷ 44 ∷ 34 ∷ 98 ∷ 44 ∷ 34 ∷ 34 ∷ 99 ∷ 34 ∷ 44 ∷ []) ≡ (97 ∷ []) ∷ (34 ∷ 98 ∷ 44 ∷ 34 ∷ 34 ∷ 99 ∷ 34 ∷ []) ∷ [] ∷ []
unfolding by_mark move may_end in_first split
three_fields = refl

-- `"a"b`, `a"b"` and `"a` are unsound
unsound : (sound (34 ∷ 97 ∷ 34 ∷ 98 ∷ []) ≡ false) × (sound (97 ∷ 34 ∷ 98 ∷ 34 ∷ []) ≡ false) × (sound (34 ∷ 97 ∷ []) ≡ false)
unfolding by_mark move may_end sound_from
unsound = (refl, refl, refl)

-- a line feed in quotes ends the line, and one carriage return before it goes: `"a CR CR LF b` has the lines `"a CR` and `b`
two_lines : lines (34 ∷ 97 ∷ 13 ∷ 13 ∷ 10 ∷ 98 ∷ []) ≡ (34 ∷ 97 ∷ 13 ∷ []) ∷ (98 ∷ []) ∷ []
unfolding cut on_first less_return piece_lines
two_lines = refl

-- f added to `a,b`: `f,a,b`, `a,f,b`, `a,b,f`; there is no position 3
abbrev ab : List ℕ
ab = 97 ∷ 44 ∷ 98 ∷ []

added :
    (add_at 0 (102 ∷ []) ab ≡ 102 ∷ 44 ∷ ab)
    × (add_at 1 (102 ∷ []) ab ≡ 97 ∷ 44 ∷ 102 ∷ 44 ∷ 98 ∷ [])
    × (add_at 2 (102 ∷ []) ab ≡ ab ++ (44 ∷ 102 ∷ []))
    × (add_at 3 (102 ∷ []) ab ≡ ab)
unfolding by_mark move may_end in_first split insert_at comma_each join add_at
added = (refl, refl, refl, refl)

-- ---- a log and columns for it
-- `cell,flow,temp` and `1,2,3`
abbrev names : List ℕ
names = cell_name ++ (44 ∷ flow_name) ++ (44 ∷ temp_name)

abbrev values : List ℕ
values = 49 ∷ 44 ∷ 50 ∷ 44 ∷ 51 ∷ []

-- the two, each with its line feed
abbrev log : List ℕ
log = names ++ (10 ∷ values) ++ (10 ∷ [])

-- `x`, `"`, `"LF"`, `cell CR`
abbrev ex : List ℕ
ex = 120 ∷ []

abbrev quote : List ℕ
quote = 34 ∷ []

abbrev feed : List ℕ
feed = 34 ∷ 10 ∷ 34 ∷ []

abbrev return : List ℕ
return = cell_name ++ (13 ∷ [])

-- a column with this name and, in each later line, this field
unfoldable filled : List ℕ → List ℕ → ℕ → List ℕ
filled name f zero = name
filled name f (suc i) = f

-- the assumptions of `text_same` on such a column, in the order of `Column`, those of each line twice: of the name and of the field
unfoldable meets : List ℕ → List ℕ → List Bool
meets name f =
    clean start name
    ∷ clean start f
    ∷ no_feed name
    ∷ no_feed f
    ∷ no_return name
    ∷ not (same name cell_name)
    ∷ not (same name flow_name)
    ∷ not (same name temp_name)
    ∷ []

-- they are all
meets_column : (name f : List ℕ) → meets name f ≡ replicate 8 true → Column (filled name f)
unfolding meets filled
meets_column name f e =
    let a : clean start name ≡ true = cc in
    let b : clean start f ≡ true = cc in
    let c : no_feed name ≡ true = cc in
    let d : no_feed f ≡ true = cc in
    let g : not (same name cell_name) ≡ true = cc in
    let h : not (same name flow_name) ≡ true = cc in
    let i : not (same name temp_name) ≡ true = cc in
    record {
      each = both (clean_field name a) (clean_field f b);
      feeds = feeds_both c d;
      returns = cc;
      not_cell = not-true _ g;
      not_flow = not-true _ h;
      not_temp = not-true _ i;
    }
  where
    both : Field name → Field f → (i : ℕ) → Field (filled name f i)
    both p q zero = p
    both p q (suc i) = q

    feeds_both : no_feed name ≡ true → no_feed f ≡ true → (i : ℕ) → no_feed (filled name f i) ≡ true
    feeds_both p q zero = p
    feeds_both p q (suc i) = q

-- all but one
abbrev all_but : ℕ → List Bool
all_but n = set (replicate 8 true) n false

-- a log read, with all that this computes with
unfoldable read : List ℕ → List Reading
unfolding
    cut on_first less_return piece_lines read_log read_lines read_all read_line header_of header_ok columns_of read_columns line_ok reading_of number warm cold temperature
    number_of horner all same times column split sound_from move by_mark may_end in_first
read t = read_log t

-- and so a log with a column
unfoldable read_with : ℕ → (ℕ → List ℕ) → List ℕ → List Reading
unfolding read add_text add_pieces add_at insert_at join comma_each glue return_of meets filled clean
read_with k fs t = read_log (add_text k fs t)

-- what the log comes to
log_read : read_log log ≡ Ok (reported 1 2 3) ∷ []
unfolding read
log_read = refl

-- a column that meets all assumptions but number n, added to the log at position k, makes it come to rs
abbrev Needs : ℕ → ℕ → List ℕ → List ℕ → List Reading → Type 0
Needs n k name f rs = (meets name f ≡ all_but n) × (read_log (add_text k (filled name f) log) ≡ rs)

-- sound quoting of the name
needs_sound_name : Needs 0 0 quote ex (Err N.Header ∷ [])
unfolding read_with
needs_sound_name = (refl, refl)

-- and of a later field
needs_sound_field : Needs 1 0 ex quote (Err N.Fields ∷ [])
unfolding read_with
needs_sound_field = (refl, refl)

-- no line feed in the name
needs_no_feed_name : Needs 2 0 feed ex (Err N.Header ∷ Err N.Header ∷ [])
unfolding read_with
needs_no_feed_name = (refl, refl)

-- nor in a later field
needs_no_feed_field : Needs 3 0 ex feed (Err N.Fields ∷ Err N.Fields ∷ [])
unfolding read_with
needs_no_feed_field = (refl, refl)

-- no carriage return in the name: it would go with the line's end, and `cell` would stand there twice
needs_no_return : Needs 4 3 return ex (Err N.Header ∷ [])
unfolding read_with
needs_no_return = (refl, refl)

-- "another name"
needs_not_cell : Needs 5 0 cell_name ex (Err N.Header ∷ [])
unfolding read_with
needs_not_cell = (refl, refl)

needs_not_flow : Needs 6 0 flow_name ex (Err N.Header ∷ [])
unfolding read_with
needs_not_flow = (refl, refl)

needs_not_temp : Needs 7 0 temp_name ex (Err N.Header ∷ [])
unfolding read_with
needs_not_temp = (refl, refl)

-- "one position in all lines": with x before the names and 4 after the values, the three stand under other names
needs_one_position :
    (read_line (header_of names) values ≡ Ok (reported 1 2 3))
    × (read_line (header_of (add_at 0 ex names)) (add_at 3 (52 ∷ []) values) ≡ Ok (reported 2 3 4))
unfolding read_with
needs_one_position = (refl, refl)

-- a carriage return in a later field, `x CR` before the line feed, goes with the line's end and does no harm
return_in_field : read_log (add_text 3 (filled ex (120 ∷ 13 ∷ [])) log) ≡ Ok (reported 1 2 3) ∷ []
unfolding read_with
return_in_field = refl

-- ---- numbers, and names in any order
-- `007` is 7 and `0007` is no number; under `temp`, `-0` is 0, `-40` is 216 as a byte, and `-41` and `86` are out of range
some_numbers :
    (number (48 ∷ 48 ∷ 55 ∷ []) ≡ 7)
    × (number (48 ∷ 48 ∷ 48 ∷ 55 ∷ []) ≡ 1000)
    × (temperature (45 ∷ 48 ∷ []) ≡ 0)
    × (temperature (45 ∷ 52 ∷ 48 ∷ []) ≡ 216)
    × (temperature (45 ∷ 52 ∷ 49 ∷ []) ≡ 1000)
    × (temperature (56 ∷ 54 ∷ []) ≡ 1000)
unfolding read
some_numbers = (refl, refl, refl, refl, refl, refl)

-- `temp,,flow,"",cell CR LF -5,"a,b",255,,15`, with no line feed at the end
any_order :
    read_log
    (temp_name
    ++ (44 ∷ 44 ∷ flow_name)
    ++ (44 ∷ 34 ∷ 34 ∷ 44 ∷ cell_name)
    ++ (13 ∷ 10 ∷ 45 ∷ 53 ∷ 44 ∷ 34 ∷ 97 ∷ 44 ∷ 98 ∷ 34 ∷ 44 ∷ 50 ∷ 53 ∷ 53 ∷ 44 ∷ 44 ∷ 49 ∷ 53 ∷ []))
    ≡ Ok (reported 15 255 251) ∷ []
unfolding read
any_order = refl
