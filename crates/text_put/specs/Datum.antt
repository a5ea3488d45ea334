-- Numbers as data of a line of text.
use Rattle.std.specs.Prelude.{ℕ, ◌+◌, List, ◌∷◌, ℤ, pos, negsuc}
use Rattle.text.specs.Text.{decimal_of}

-- a number after a space
abbrev pub datum : ℕ → List ℕ
datum n = 32 ∷ decimal_of n

-- the same of a signed one: a minus sign before a negative one
abbrev pub signed_datum : ℤ → List ℕ
signed_datum (pos n) = datum n
signed_datum (negsuc n) = 32 ∷ 45 ∷ decimal_of (n + 1)
