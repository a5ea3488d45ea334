-- How the parts of the calls join. Assumes nothing.
use Prim.Native.Nat.{ℕ, ◌<◌}
use mathlib.Core.Path.{◌≡◌, sym, ap, ◌∙◌}
use mathlib.Core.List.{List}
use mathlib.Core.Bool.{true, false, and-false}
use native.Mathlib.Omega.{arith}
use lib.ListN.{length}
use lib.Dec.{leb}
use borrow.Author.Tests.{eq-eqb, ne_eqb, leb-true, leb-false, lt-leb}
use Rattle.std.specs.Prelude.{Option, Some, None, Err, ok_or}
use Rattle.std.proofs.lemmas.Option.{none-some, cond_some}
use Rattle.text.specs.Text.{within}
use Rattle.text.proofs.Laws.{either, within_most, within_more}
use Rattle.log_quotes.specs.Quotes.{fields, sound}
use Rattle.log_entry.specs.Entry.{in_ranges, entry}
use Rattle.log_columns.specs.declared.Columns.{Columns}
use Rattle.log_columns.specs.Columns.{header_ok, columns_of}
use Rattle.log_values.specs.declared.Values.{Values}
use Rattle.log_values.specs.Values.{found, values_of}
use Rattle.meter_log.specs.declared.Refusal.TheVariants as N
use Rattle.meter_log.specs.Reading.{Header, header_of, reading_of, entry_found, line_ok, read_columns, read_line}

-- ---- an entry
module _ (x y z : Option ℕ) where
  pub found_first : x ≡ None → entry_found x y z ≡ None
  unfolding entry_found
  found_first e = rw e

  pub found_second : (a : ℕ) → x ≡ Some a → y ≡ None → entry_found x y z ≡ None
  unfolding entry_found
  found_second a e f = rw (e, f)

  pub found_third : (a b : ℕ) → x ≡ Some a → y ≡ Some b → z ≡ None → entry_found x y z ≡ None
  unfolding entry_found
  found_third a b e f g = rw (e, f, g)

  pub found_all : (a b d : ℕ) → x ≡ Some a → y ≡ Some b → z ≡ Some d → entry_found x y z ≡ entry a b d
  unfolding entry_found
  found_all a b d e f g = rw (e, f, g)

pub ruleset entry_steps = (found_first, found_second, found_third, found_all)

-- and the reading that it is
no_range : (x y z : ℕ) → in_ranges x y z ≡ false → Err N.Number ≡ reading_of x y z
unfolding reading_of
no_range x y z e = rw e

in_range : (x y z : ℕ) → ok_or (entry x y z) N.Number ≡ reading_of x y z
unfolding entry reading_of
in_range x y z = either (in_ranges x y z) (λ e. rw e) (λ e. rw e)

reading_is : (x y z : ℕ) → ok_or (entry_found (within 999 x) (within 999 y) (within 255 z)) N.Number ≡ reading_of x y z
unfolding entry_found
reading_is x y z =
    either (leb x 999)
    (λ e.
    either (leb y 999)
    (λ f.
    either (leb z 255)
    (λ g. rw (within_most 999 x (leb-true x 999 e), within_most 999 y (leb-true y 999 f), within_most 255 z (leb-true z 255 g)) (in_range x y z))
    (λ g.
    rw (within_most 999 x (leb-true x 999 e), within_most 999 y (leb-true y 999 f), within_more 255 z (leb-false z 255 g))
    (no_range x y z (rw (g, and-false)))))
    (λ f.
    let l = leb-false y 999 f in
    let h : 255 < y = omega (arith, l) in
    rw (within_most 999 x (leb-true x 999 e), within_more 999 y l) (no_range x y z (rw (lt-leb y 255 h, and-false)))))
    (λ e.
    let l = leb-false x 999 e in
    let h : 15 < x = omega (arith, l) in
    rw (within_more 999 x l) (no_range x y z (rw (lt-leb x 15 h))))

-- ---- a line under columns
module _ (c : Columns) (l : List ℕ) where
  pub line_unsound : None ≡ values_of c l → read_columns c l ≡ Err N.Fields
  unfolding values_of read_columns line_ok
  line_unsound e = either (sound l) (λ t. absurd (none-some (found c l) (e ∙ rw t))) (λ t. rw t)

  module _ (v : Values) (e : Some v ≡ values_of c l) where
    parts : (sound l ≡ true) × (found c l ≡ v)
    unfolding values_of
    parts = cond_some (sound l) (found c l) v (sym e)

    number_of_fields : length (fields l) ≡ v.fields
    number_of_fields = ap (λ (w : Values). w.fields) parts.1

    pub line_fields : (v.fields ≡ c.count → ⊥) → read_columns c l ≡ Err N.Fields
    unfolding read_columns line_ok
    line_fields h = rw (parts.0, number_of_fields, ne_eqb v.fields c.count h)

    pub line_values : v.fields ≡ c.count → ok_or (entry_found v.cell v.flow v.last) N.Number ≡ read_columns c l
    unfolding read_columns line_ok
    line_values h = rw (parts.0, number_of_fields, eq-eqb v.fields c.count h, ← parts.1) (reading_is _ _ _)

pub ruleset reading_steps = (line_unsound, line_fields, line_values)

-- ---- the first line
module _ (h : List ℕ) where
  pub head_yes : (c : Columns) → header_ok h ≡ true → c ≡ columns_of h → Some c ≡ header_of h
  unfolding header_of
  head_yes c t g = rw (t, g)

  pub head_no : header_ok h ≡ false → None ≡ header_of h
  unfolding header_of
  head_no t = rw t

-- ---- a line under a first line
module _ (h : Header) (l : List ℕ) where
  pub read_none : h ≡ None → read_line h l ≡ Err N.Header
  unfolding read_line
  read_none e = rw e

  pub read_some : (c : Columns) → h ≡ Some c → read_line h l ≡ read_columns c l
  unfolding read_line
  read_some c e = rw e

pub ruleset line_steps = (read_none, read_some)
