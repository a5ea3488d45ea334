-- Where the fields of a line stand in it: document 02, Q-5, "the part of the caller's line between its separators".
use Rattle.std.specs.Prelude.{ℕ, zero, suc, ◌+◌, ◌≤◌, ◌≡◌, List, [], ◌∷◌, Bool, cond, length, get_or, drop}
use Rattle.std.specs.Borrow.{Bor}
use Rattle.log_quotes.specs.Quotes.{Quoting, start, next_quoting, separates, sound, fields, field_at}
use Rattle.log_fields.specs.declared.Part.{Part}

-- where field k of these fields starts, one byte standing between each two; at the end of all where there is no such field
unfoldable pub start_in : List (List ℕ) → ℕ → ℕ
start_in fs zero = 0
start_in [] (suc k) = 0
start_in (f ∷ []) (suc k) = length f
start_in (f ∷ g ∷ fs) (suc k) = length f + 1 + start_in (g ∷ fs) k

-- where field k of a line starts and where it ends; both 0 for an unsound line
unfoldable pub field_start : List ℕ → ℕ → ℕ
field_start l k = cond (sound l) (start_in (fields l) k) 0

unfoldable pub field_end : List ℕ → ℕ → ℕ
field_end l k = field_start l k + length (field_at l k)

abbrev pub part_of : List ℕ → ℕ → Part
part_of l k = record { start = field_start l k; end = field_end l k }

-- r points into what s points to, a bytes further
pub record From (s : Bor (List ℕ)) (a : ℕ) (r : Bor (List ℕ)) : Type 0 where
  pub block : r.ref_ptr.0 ≡ s.ref_ptr.0
  pub offset : r.ref_ptr.1 ≡ s.ref_ptr.1 + a

-- how byte i stands in its field, the first standing as q
unfoldable pub quoting_at : Quoting → List ℕ → ℕ → Quoting
quoting_at q l zero = q
quoting_at q [] (suc i) = q
quoting_at q (b ∷ bs) (suc i) = quoting_at (next_quoting q b) bs i

-- whether byte i of a line separates two fields
abbrev pub separates_at : Quoting → List ℕ → ℕ → Bool
separates_at q l i = separates (quoting_at q l i) (get_or l i 0)

abbrev pub is_separator : List ℕ → ℕ → Bool
is_separator l i = separates_at start l i

-- ---- for the loops
-- field k of a line, sound or not
abbrev pub part_in : List ℕ → ℕ → Part
part_in l k = record { start = start_in (fields l) k; end = start_in (fields l) k + length (get_or (fields l) k []) }

-- field k starts at a
pub record StartsAt (l : List ℕ) (k a : ℕ) : Type 0 where
  pub high : a ≤ length l
  pub place : a ≡ start_in (fields l) k
  pub first : get_or (fields l) k [] ≡ get_or (fields (drop a l)) 0 []
