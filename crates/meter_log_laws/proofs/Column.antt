-- Document 02, Q-5: "A column added at one position in all lines, with another name, sound quoting and no carriage return or line feed,
-- must leave the entries the same." Here over lines, whose fields may hold line ends. Assumes nothing.
use Prim.Native.Nat.{ℕ, zero, suc}
use mathlib.Core.Path.{◌≡◌, refl, sym, ◌∙◌}
use mathlib.Core.List.{List, [], ◌∷◌}
use mathlib.Core.Bool.{true, false}
use native.Mathlib.Omega.{arith}
use native.Mathlib.Numerals.{add-one}
use lib.ListN.{length, get_or}
use lib.Dec.{eqb, eqb-suc-suc, eqb-zero-suc, eqb-suc-zero}
use borrow.Author.Tests.{eqb-true}
use Rattle.slices.specs.Bytes.{same}
use Rattle.slices.proofs.Laws.{and_yes}
use Rattle.text.proofs.Laws.{either}
use Rattle.log_quotes.specs.Quotes.{fields, sound}
use Rattle.log_names.specs.Names.{times, column}
use Rattle.log_columns.proofs.Laws.{head_sound}
use Rattle.log_columns.specs.Columns.{cell_name, flow_name, temp_name, once, header_ok, columns_of}
use Rattle.log_values.specs.Values.{under}
use Rattle.meter_log.specs.Reading.{header_of, line_ok, read_columns, read_line}
use Rattle.meter_log.specs.Log.{read_all}
use Rattle.meter_log_laws.specs.Added.{insert_at, add_at, no_return}
use Rattle.meter_log_laws.specs.Grammar.{Field}
use Rattle.meter_log_laws.proofs.Grammar.{field_clean}
use Rattle.meter_log_laws.proofs.Put.{add_sound, add_fields}

-- "with another name, sound quoting"
pub record Other (name : List ℕ) : Type 0 where
  pub field : Field name
  pub not_cell : same name cell_name ≡ false
  pub not_flow : same name flow_name ≡ false
  pub not_temp : same name temp_name ≡ false

-- ---- lists of fields
times-insert : (name g : List ℕ) (k : ℕ) (gs : List (List ℕ)) → same g name ≡ false → times name (insert_at k g gs) ≡ times name gs
unfolding times insert_at
times-insert name g zero gs e = rw e (omega arith)
times-insert name g (suc k) [] e = refl
times-insert name g (suc k) (h ∷ gs) e = rw (times-insert name g k gs e)

module _ (f g : List ℕ) where
  length-insert : (k : ℕ) (ls hs : List (List ℕ)) → eqb (length (insert_at k f ls)) (length (insert_at k g hs)) ≡ eqb (length ls) (length hs)
  unfolding insert_at
  length-insert zero ls hs = eqb-suc-suc (length ls) (length hs)
  length-insert (suc k) [] [] = refl
  length-insert (suc k) [] (h ∷ hs) = eqb-zero-suc (length (insert_at k g hs)) ∙ sym (eqb-zero-suc (length hs))
  length-insert (suc k) (l ∷ ls) [] = eqb-suc-zero (length (insert_at k f ls)) ∙ sym (eqb-suc-zero (length ls))
  length-insert (suc k) (l ∷ ls) (h ∷ hs) =
      eqb-suc-suc (length (insert_at k f ls)) (length (insert_at k g hs)) ∙ length-insert k ls hs ∙ sym (eqb-suc-suc (length ls) (length hs))

  under-insert :
      (name : List ℕ) (k : ℕ) (ls hs : List (List ℕ)) →
      length ls ≡ length hs →
      same g name ≡ false →
      get_or (insert_at k f ls) (column name (insert_at k g hs)) [] ≡ get_or ls (column name hs) []
  unfolding insert_at column
  under-insert name zero ls hs n e = rw (e, add-one (column name hs))
  under-insert name (suc k) [] [] n e = refl
  under-insert name (suc k) [] (h ∷ hs) n e = absurd (omega arith)
  under-insert name (suc k) (l ∷ ls) [] n e = absurd (omega arith)
  under-insert name (suc k) (l ∷ ls) (h ∷ hs) n e =
      either (same h name)
      (λ t. rw t)
      (λ t. rw (t, add-one (column name (insert_at k g hs)), add-one (column name hs)) (under-insert name k ls hs (omega arith) e))

-- ---- a first line
module _ (k : ℕ) {name : List ℕ} (o : Other name) (h : List ℕ) where
  once_same : (x : List ℕ) → same name x ≡ false → sound h ≡ true → once x (add_at k name h) ≡ once x h
  once_same x e s = rw (add_fields name h (field_clean o.field) k s, times-insert x name k (fields h) e)

  -- the first line passes check 40 if, and only if, it did without the column
  pub head_same : header_ok (add_at k name h) ≡ header_ok h
  unfolding header_ok
  head_same =
      either (sound h)
      (λ e.
      rw
      (add_sound name h (field_clean o.field) k, once_same cell_name o.not_cell e, once_same flow_name o.not_flow e, once_same temp_name o.not_temp e))
      (λ e. rw (add_sound name h (field_clean o.field) k, e))

-- ---- and a later one
module _ (k : ℕ) {name : List ℕ} (o : Other name) (h : List ℕ) (s : sound h ≡ true) {f : List ℕ} (l : List ℕ) (p : Field f) where
  ok_same : line_ok (columns_of (add_at k name h)) (add_at k f l) ≡ line_ok (columns_of h) l
  unfolding line_ok columns_of
  ok_same =
      either (sound l)
      (λ e.
      rw (add_sound f l (field_clean p) k, e, add_fields f l (field_clean p) k e, add_fields name h (field_clean o.field) k s)
      (length-insert f name k (fields l) (fields h)))
      (λ e. rw (add_sound f l (field_clean p) k, e))

  ok_yes : line_ok (columns_of h) l ≡ true → (sound l ≡ true) × (length (fields l) ≡ length (fields h))
  unfolding line_ok columns_of
  ok_yes e = let t = and_yes (sound l) (eqb (length (fields l)) (length (fields h))) e in (t.0, eqb-true _ _ t.1)

  -- the field under a name is the one that it was
  value_same :
      (x : List ℕ) →
      line_ok (columns_of h) l ≡ true →
      same name x ≡ false →
      under (add_at k f l) (column x (fields (add_at k name h))) ≡ under l (column x (fields h))
  value_same x e z =
      let t = ok_yes e in
      rw (add_fields f l (field_clean p) k t.0, add_fields name h (field_clean o.field) k s)
      (under-insert f name x k (fields l) (fields h) t.1 z)

  columns_same : read_columns (columns_of (add_at k name h)) (add_at k f l) ≡ read_columns (columns_of h) l
  unfolding read_columns columns_of
  columns_same =
      either (line_ok (columns_of h) l)
      (λ e. rw (ok_same, e, value_same cell_name e o.not_cell, value_same flow_name e o.not_flow, value_same temp_name e o.not_temp))
      (λ e. rw (ok_same, e))

-- The lines ms are the lines ls, each with a sound field added at position k: the column's, where that has no carriage return.
pub data Adds (k : ℕ) : (ℕ → List ℕ) → List (List ℕ) → List (List ℕ) → Type 0 where
  none : {fs : ℕ → List ℕ} → Adds k fs [] []
  more :
      {fs : ℕ → List ℕ} {l m : List ℕ} {ls ms : List (List ℕ)} (f : List ℕ) →
      Field f →
      (no_return (fs 0) ≡ true → f ≡ fs 0) →
      m ≡ add_at k f l →
      Adds k (λ i. fs (suc i)) ls ms →
      Adds k fs (l ∷ ls) (m ∷ ms)

module _ (k : ℕ) {name : List ℕ} (o : Other name) (h : List ℕ) where
  -- what a line comes to stays the same: for every first line and every line, sound or not, long or short
  pub line_same : {f : List ℕ} (l : List ℕ) → Field f → read_line (header_of (add_at k name h)) (add_at k f l) ≡ read_line (header_of h) l
  unfolding read_line header_of
  line_same l p =
      either (header_ok h)
      (λ e. rw (head_same k o h, e) (columns_same k o h (head_sound h e) l p))
      (λ e. rw (head_same k o h, e))

  -- and so of every list of lines
  pub all_same : {fs : ℕ → List ℕ} {ls ms : List (List ℕ)} → Adds k fs ls ms → read_all (header_of (add_at k name h)) ms ≡ read_all (header_of h) ls
  unfolding read_all
  all_same none = refl
  all_same (more {l = l} f p n e r) = rw (e, line_same l p, all_same r)
