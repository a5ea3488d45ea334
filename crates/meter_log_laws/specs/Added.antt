-- A column added at one position in all lines: document 02, Q-5.
use Rattle.std.specs.Prelude.{ℕ, zero, suc, ◌≡◌, List, [], ◌∷◌, ◌++◌, Bool, true, false, cond, not, eqb, length, drop}
use Rattle.slices.specs.Bytes.{all, same}
use Rattle.text.specs.Text.{cut, non_empty}
use Rattle.log_lines.specs.Lines.{less_return}
use Rattle.log_quotes.specs.Quotes.{fields}
use Rattle.log_columns.specs.Columns.{cell_name, flow_name, temp_name}
use Rattle.meter_log_laws.specs.Grammar.{Field}

-- a list with an element more, the new one being number k; a list of fewer than k is left as it is
unfoldable pub insert_at {ℓ} : {A : Type ℓ} → ℕ → A → List A → List A
insert_at zero x xs = x ∷ xs
insert_at (suc k) x [] = []
insert_at (suc k) x (y ∷ ys) = y ∷ insert_at k x ys

-- fields, with a comma before each; and with commas between them
unfoldable pub comma_each : List (List ℕ) → List ℕ
comma_each [] = []
comma_each (f ∷ fs) = 44 ∷ (f ++ comma_each fs)

unfoldable pub join : List (List ℕ) → List ℕ
join [] = []
join (f ∷ fs) = f ++ comma_each fs

-- The line with the field f added at position k: the same bytes, with `f,` before field k, or `,f` after the last. A line
-- with fewer than k fields has no such position and is left as it is. In an unsound line all from the start of the first
-- unsound field on counts as one field.
unfoldable pub add_at : ℕ → List ℕ → List ℕ → List ℕ
add_at k f l = join (insert_at k f (fields l))

-- the carriage return that ends a line before its line feed, where there is one
unfoldable pub return_of : List ℕ → List ℕ
return_of p = drop (length (less_return p)) p

-- The pieces of a text between its line feeds, with the field fs i added at position k of line i; each line's end stays as it is.
unfoldable pub add_pieces : ℕ → (ℕ → List ℕ) → List (List ℕ) → List (List ℕ)
add_pieces k fs [] = []
add_pieces k fs (p ∷ []) = cond (non_empty p) (add_at k (fs 0) p) [] ∷ []
add_pieces k fs (p ∷ q ∷ ps) = (add_at k (fs 0) (less_return p) ++ return_of p) ∷ add_pieces k (λ i. fs (suc i)) (q ∷ ps)

-- pieces with line feeds between them
unfoldable pub glue : List (List ℕ) → List ℕ
glue [] = []
glue (p ∷ []) = p
glue (p ∷ q ∷ ps) = p ++ (10 ∷ glue (q ∷ ps))

-- "A column added at one position in all lines"
unfoldable pub add_text : ℕ → (ℕ → List ℕ) → List ℕ → List ℕ
add_text k fs t = glue (add_pieces k fs (cut 10 t))

-- "no carriage return", "no … line feed"
abbrev pub no_return : List ℕ → Bool
no_return s = all (λ b. not (eqb b 13)) s

abbrev pub no_feed : List ℕ → Bool
no_feed s = all (λ b. not (eqb b 10)) s

-- A column for all lines, line i's field being fs i: "with another name, sound quoting and no carriage return or line feed". Of the
-- carriage return only the name has to be free.
pub record Column (fs : ℕ → List ℕ) : Type 0 where
  pub each : (i : ℕ) → Field (fs i)
  pub feeds : (i : ℕ) → no_feed (fs i) ≡ true
  pub returns : no_return (fs 0) ≡ true
  pub not_cell : same (fs 0) cell_name ≡ false
  pub not_flow : same (fs 0) flow_name ≡ false
  pub not_temp : same (fs 0) temp_name ≡ false
