-- Quoting and the fields of a line: document 02, Q-5; RFC 4180, section 2, rules 4 to 7.
use Rattle.std.specs.Prelude.{ℕ, ◌+◌, ◌-◌, ◌≤◌, ◌≡◌, List, [], ◌∷◌, Bool, true, false, cond, ◌&&◌, length, get_or, take, drop, eqb}
use Rattle.log_quotes.specs.declared.FieldEnd.{FieldEnd}

-- Where a byte stands in its field, from left to right: at its start; in an unquoted one; inside quotes;
-- after a quote that ends the field or is the first of two; after an unsound quote.
pub data Quoting : Type 0 where
  start : Quoting
  plain : Quoting
  inside : Quoting
  closed : Quoting
  broken : Quoting

-- one of three by the byte: a quote (34), a comma (44), another
unfoldable pub by_mark : Bool → Bool → Quoting → Quoting → Quoting → Quoting
by_mark true comma a b c = a
by_mark false true a b c = b
by_mark false false a b c = c

-- "A quote is sound only at both ends of a field, or doubled within such a field; other bytes are free."
-- Where the next byte stands, after a quote, a comma, another:
unfoldable pub move : Quoting → Bool → Bool → Quoting
move start q c = by_mark q c inside start plain
move plain q c = by_mark q c broken start plain
move inside q c = by_mark q c closed inside inside
move closed q c = by_mark q c inside start broken
move broken q c = broken

abbrev pub next_quoting : Quoting → ℕ → Quoting
next_quoting q b = move q (eqb b 34) (eqb b 44)

-- whether the field may end here
unfoldable pub may_end : Quoting → Bool
may_end start = true
may_end plain = true
may_end inside = false
may_end closed = true
may_end broken = false

-- a comma separates fields where one may end, so not inside quotes
abbrev pub separates : Quoting → ℕ → Bool
separates q b = eqb b 44 && may_end q

-- whether what is left of a line is soundly quoted
unfoldable pub sound_from : Quoting → List ℕ → Bool
sound_from q [] = may_end q
sound_from q (b ∷ bs) = sound_from (next_quoting q b) bs

-- a byte more at the front of the first field
unfoldable pub in_first : ℕ → List (List ℕ) → List (List ℕ)
in_first b [] = []
in_first b (f ∷ fs) = (b ∷ f) ∷ fs

-- the fields of what is left of a line, the first of which is under way; an unsound one is all the rest
unfoldable pub split : Quoting → List ℕ → List (List ℕ)
split q [] = [] ∷ []
split q (b ∷ bs) = cond (separates q b) ([] ∷ split start bs) (in_first b (split (next_quoting q b) bs))

-- whether a line is soundly quoted, and its fields, quotes included
abbrev pub sound : List ℕ → Bool
sound l = sound_from start l

abbrev pub fields : List ℕ → List (List ℕ)
fields l = split start l

-- "A field is handed back as the part of the caller's line between its separators, quotes included (empty if absent or
-- the line is unsound)": field k, the first being 0.
unfoldable pub field_at : List ℕ → ℕ → List ℕ
field_at l k = cond (sound l) (get_or (fields l) k []) []

-- how many fields a soundly quoted line has (one at least); 0 for an unsound line
unfoldable pub field_count : List ℕ → ℕ
field_count l = cond (sound l) (length (fields l)) 0

-- ---- a field in its line, for the loops
-- the fields after one that ends at e, and whether they are soundly quoted
unfoldable pub later : List ℕ → ℕ → List (List ℕ)
later l e = cond (eqb e (length l)) [] (fields (drop (e + 1) l))

unfoldable pub later_sound : List ℕ → ℕ → Bool
later_sound l e = cond (eqb e (length l)) true (sound (drop (e + 1) l))

-- what is left of a field from a on, where a stands at q, ends as r says
pub record EndsAt (q : Quoting) (l : List ℕ) (a : ℕ) (r : FieldEnd) : Type 0 where
  pub low : a ≤ r.end
  pub high : r.end ≤ length l
  pub parts : split q (drop a l) ≡ take (r.end - a) (drop a l) ∷ later l r.end
  pub quoting : sound_from q (drop a l) ≡ (r.sound && later_sound l r.end)
