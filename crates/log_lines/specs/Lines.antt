-- The lines of a text: document 02, Q-5.
use Rattle.std.specs.Prelude.{ℕ, ◌+◌, min, List, [], ◌∷◌, cond, length, take, eqb, leb}
use Rattle.text.specs.Text.{place_of, cut, non_empty}

-- "less a carriage return just before it": bytes without a carriage return (13) at their end
unfoldable pub less_return : List ℕ → List ℕ
less_return [] = []
less_return (b ∷ []) = cond (eqb b 13) [] (b ∷ [])
less_return (b ∷ c ∷ s) = b ∷ less_return (c ∷ s)

-- "A line ends at its first line feed (quoted or not, less a carriage return just before it) or with its bytes." A line feed is 10.
unfoldable pub first_line : List ℕ → List ℕ
first_line t = cond (leb (length t) (place_of 10 t)) t (less_return (take (place_of 10 t) t))

-- where the next line begins: after the first line feed, or at the end of the text
unfoldable pub next_line : List ℕ → ℕ
next_line t = min (place_of 10 t + 1) (length t)

-- the lines of a text cut at its line feeds; what stands after the last of these is a line where it has bytes
unfoldable pub piece_lines : List (List ℕ) → List (List ℕ)
piece_lines [] = []
piece_lines (p ∷ []) = cond (non_empty p) (p ∷ []) []
piece_lines (p ∷ q ∷ ps) = less_return p ∷ piece_lines (q ∷ ps)

abbrev pub lines : List ℕ → List (List ℕ)
lines t = piece_lines (cut 10 t)
