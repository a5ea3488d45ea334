-- Bytes in hexadecimal.
use Rattle.std.specs.Prelude.{ℕ, ◌+◌, ◌-◌, ◌*◌, ◌/◌, ◌%◌, List, [], ◌∷◌, cond, ◌&&◌, leb, Option, Some, None}

-- the hexadecimal digit, in lower case, of a number below 16
unfoldable pub hex_digit : ℕ → ℕ
hex_digit d = cond (leb d 9) (48 + d) (87 + d)

-- the number whose hexadecimal digit a byte is: 16 for what is none
unfoldable pub hex_value : ℕ → ℕ
hex_value c = cond (leb 48 c && leb c 57) (c - 48) (cond (leb 97 c && leb c 102) (c - 87) 16)

-- the same, where the byte is a digit
unfoldable pub value_of : ℕ → Option ℕ
value_of c = cond (leb (hex_value c) 15) (Some (hex_value c)) None

-- bytes in hexadecimal, two digits each
unfoldable pub hex_of : List ℕ → List ℕ
hex_of [] = []
hex_of (x ∷ xs) = hex_digit (x / 16) ∷ hex_digit (x % 16) ∷ hex_of xs

-- the bytes that pairs of hexadecimal digits spell, up to the first pair that is none
unfoldable pub unhex_of : List ℕ → List ℕ
unhex_of [] = []
unhex_of (c ∷ []) = []
unhex_of (c ∷ d ∷ s) = cond (leb (hex_value c) 15 && leb (hex_value d) 15) ((hex_value c * 16 + hex_value d) ∷ unhex_of s) []
