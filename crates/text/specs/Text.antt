-- The place of a byte, the pieces between separators, and decimal numbers.
use Rattle.std.specs.Prelude.{ℕ, zero, suc, ◌+◌, ◌-◌, ◌*◌, ◌/◌, ◌%◌, min, List, [], ◌∷◌, ◌++◌, Bool, true, false, cond, ◌&&◌, leb, eqb, Option, Some, None}
use Rattle.slices.specs.Bytes.{all}

-- how many elements stand before the first x: all where there is none
unfoldable pub place_of : ℕ → List ℕ → ℕ
place_of x [] = 0
place_of x (y ∷ ys) = cond (eqb y x) 0 (suc (place_of x ys))

-- c put before the first piece
unfoldable pub on_first : ℕ → List (List ℕ) → List (List ℕ)
on_first c [] = (c ∷ []) ∷ []
on_first c (w ∷ ws) = (c ∷ w) ∷ ws

-- the pieces between the x's: one more than there are x's
unfoldable pub cut : ℕ → List ℕ → List (List ℕ)
cut x [] = [] ∷ []
cut x (c ∷ cs) = cond (eqb c x) ([] ∷ cut x cs) (on_first c (cut x cs))

abbrev pub is_digit : ℕ → Bool
is_digit c = leb 48 c && leb c 57

abbrev pub non_empty : List ℕ → Bool
non_empty [] = false
non_empty (x ∷ xs) = true

-- the number whose digits are v's and then these
unfoldable pub horner : ℕ → List ℕ → ℕ
horner v [] = v
horner v (c ∷ cs) = horner (v * 10 + (c - 48)) cs

-- the number that the bytes spell, one or more decimal digits: cap for one above cap, and for what is no number
unfoldable pub number_of : ℕ → List ℕ → ℕ
number_of cap s = cond (non_empty s && all is_digit s) (min (horner 0 s) cap) cap

-- n where it is at most max
unfoldable pub within : ℕ → ℕ → Option ℕ
within max n = cond (leb n max) (Some n) None

-- the number that the bytes spell, where they spell one and it is at most max
unfoldable pub number_within : ℕ → List ℕ → Option ℕ
number_within max s = within max (number_of (suc max) s)

-- the decimal digits of a number, at most the given number of them
unfoldable pub digits : ℕ → ℕ → List ℕ
digits zero n = []
digits (suc k) n = cond (leb n 9) [] (digits k (n / 10)) ++ ((48 + n % 10) ∷ [])

-- the decimal digits of a number (it has at most n + 1)
unfoldable pub decimal_of : ℕ → List ℕ
decimal_of n = digits (suc n) n
