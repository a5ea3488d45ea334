-- FIPS 180-4, section 5.1.1: padding, on messages of whole bytes.
use Rattle.std.specs.Prelude.{List, ◌∷◌, ◌++◌, ℕ, ◌-◌, ◌*◌, ◌%◌, length, replicate}
use Rattle.slices.specs.Bytes.{big_endian}

-- 5.1.1: the least count z of zero bytes after the mark with n + 1 + z ≡ 56 modulo 64
abbrev pub zero_count : ℕ → ℕ
zero_count n = (119 - n % 64) % 64

-- 5.1.1: what is put after a message of n bytes: a bit 1, zeros, and the length in bits as 64 bits
unfoldable pub padding : ℕ → List ℕ
padding n = 0x80 ∷ (replicate (zero_count n) 0 ++ big_endian 8 (8 * n))

-- 5.1.1: the padded message
unfoldable pub pad : List ℕ → List ℕ
pad m = m ++ padding (length m)
