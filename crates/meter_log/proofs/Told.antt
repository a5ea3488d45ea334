-- What a line comes to is told as document 02 says; and what is told fixes it: two that are told alike are one. Assumes nothing.
use Prim.Native.Nat.{ℕ}
use mathlib.Core.Path.{◌≡◌, refl, sym, ap, ◌∙◌}
use mathlib.Core.List.{List}
use mathlib.Core.Bool.{cond}
use lib.Dec.{eqb}
use Rattle.std.specs.Prelude.{Some, None, Ok, Err}
use Rattle.text.proofs.Laws.{either}
use Rattle.log_entry.specs.Entry.{in_ranges}
use Rattle.log_columns.specs.declared.Columns.{Columns}
use Rattle.log_columns.specs.Columns.{header_ok}
use Rattle.meter_log.specs.declared.Refusal.{Refusal}
use Rattle.meter_log.specs.declared.Refusal.TheVariants as N
use Rattle.meter_log.specs.Reading.{Header, Reading, refusal_no, header_of, reading_of, line_ok, read_columns, read_line}
use Rattle.meter_log.specs.Told.{Told, named, made, refused, header_told, reading_told, first_told, values_told, columns_told, line_told}

-- ---- what is told
pub header_told_lem : (h : List ℕ) → header_told (header_of h) ≡ first_told h
unfolding header_of first_told
header_told_lem h = either (header_ok h) (λ e. rw e) (λ e. rw e)

values_told_lem : (x y z : ℕ) → reading_told (reading_of x y z) ≡ values_told x y z
unfolding reading_of values_told
values_told_lem x y z = either (in_ranges x y z) (λ e. rw e) (λ e. rw e)

columns_told_lem : (c : Columns) (l : List ℕ) → reading_told (read_columns c l) ≡ columns_told c l
unfolding read_columns columns_told
columns_told_lem c l = either (line_ok c l) (λ e. rw e (values_told_lem _ _ _)) (λ e. rw e)

pub line_told_lem : (h : Header) (l : List ℕ) → reading_told (read_line h l) ≡ line_told h l
unfolding read_line line_told
line_told_lem (Some c) l = columns_told_lem c l
line_told_lem None l = refl

-- ---- one to one
header_from : Told → Header
header_from (named c) = Some c
header_from (made e) = None
header_from (refused n) = None

header_back : (h : Header) → header_from (header_told h) ≡ h
unfolding header_from
header_back (Some c) = refl
header_back None = refl

pub header_once : (h g : Header) → header_told h ≡ header_told g → h ≡ g
header_once h g e = sym (header_back h) ∙ ap header_from e ∙ header_back g

refusal_from : ℕ → Refusal
refusal_from n = cond (eqb n 40) N.Header (cond (eqb n 41) N.Fields N.Number)

refusal_back : (w : Refusal) → refusal_from (refusal_no w) ≡ w
unfolding refusal_from
refusal_back N.Header = refl
refusal_back N.Fields = refl
refusal_back N.Number = refl

pub refusal_once : (v w : Refusal) → refusal_no v ≡ refusal_no w → v ≡ w
refusal_once v w e = sym (refusal_back v) ∙ ap refusal_from e ∙ refusal_back w

reading_from : Told → Reading
reading_from (named c) = Err N.Header
reading_from (made e) = Ok e
reading_from (refused n) = Err (refusal_from n)

reading_back : (r : Reading) → reading_from (reading_told r) ≡ r
unfolding reading_from
reading_back (Ok e) = refl
reading_back (Err w) = ap Err (refusal_back w)

pub reading_once : (r s : Reading) → reading_told r ≡ reading_told s → r ≡ s
reading_once r s e = sym (reading_back r) ∙ ap reading_from e ∙ reading_back s
