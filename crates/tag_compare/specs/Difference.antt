-- The differences of two tags, gathered in one number. Document 02, Q-3: "gather the differences of the 32 bytes by arithmetic".
use Rattle.std.specs.Prelude.{ℕ, List, [], ◌∷◌}
use Rattle.std.specs.Int.Bits.{bit_or, bit_xor}

-- the bits in which some byte of s differs from the byte of t at its place; what one has past the other's end does not count, so the laws are
-- of lists of one length, as two tags are
unfoldable pub different_bits : List ℕ → List ℕ → ℕ
different_bits [] t = 0
different_bits (x ∷ s) [] = 0
different_bits (x ∷ s) (y ∷ t) = bit_or (bit_xor x y) (different_bits s t)
