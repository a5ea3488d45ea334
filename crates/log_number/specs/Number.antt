-- Numbers in a field of the meters' log: document 02, Q-5.
use Rattle.std.specs.Prelude.{ℕ, ◌-◌, ◌%◌, List, [], ◌∷◌, cond, length, eqb, leb}
use Rattle.text.specs.Text.{number_of}

-- "A number has one to three digits", and so no quotes; 1000, which is in no range, for what is none
unfoldable pub number : List ℕ → ℕ
number s = cond (leb (length s) 3) (number_of 1000 s) 1000

-- from −40 to 85 (Q-2), as a byte in two's complement: the number itself, or 256 less it; 1000 where it is out of range
unfoldable pub warm : ℕ → ℕ
warm n = cond (leb n 85) n 1000

unfoldable pub cold : ℕ → ℕ
cold n = cond (leb n 40) ((256 - n) % 256) 1000

-- "with a minus sign (45) before it only under `temp`"
unfoldable pub temperature : List ℕ → ℕ
temperature [] = 1000
temperature (b ∷ bs) = cond (eqb b 45) (cold (number bs)) (warm (number (b ∷ bs)))
