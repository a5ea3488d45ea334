-- The choice between two words, bit by bit, with no complement.
use Rattle.std.proofs.Common.{◌≡◌, ℕ, zero, suc, ◌-◌, ◌*◌, ◌/◌, ◌%◌, ◌^◌, ◌<◌, refl, pow-suc, arith}
use lib.Arith.{lt-one}
use lib.Bits.{bit_and, bit_xor, and_shr, and_mod, xor_shr, xor_mod}

-- of words of k bits: where x has a one, the bit of y; elsewhere that of z
abbrev Chosen : ℕ → ℕ → ℕ → ℕ → Type 0
Chosen k x y z = bit_xor z (bit_and x (bit_xor y z)) ≡ bit_xor (bit_and x y) (bit_and (2 ^ k - 1 - x) z)

-- what holds of 0 and of 1 holds of a bit
bit : (P : ℕ → Type 0) → P 0 → P 1 → (n : ℕ) → n < 2 → P n
bit P p q zero h = p
bit P p q (suc zero) h = q
bit P p q (suc (suc n)) h = absurd (omega arith)

one_bit : (x y z : ℕ) → x < 2 → y < 2 → z < 2 → Chosen 1 x y z
one_bit x y z p q r =
    bit (λ x. Chosen 1 x y z)
    (bit (λ y. Chosen 1 0 y z) (bit (Chosen 1 0 0) refl refl z r) (bit (Chosen 1 0 1) refl refl z r) y q)
    (bit (λ y. Chosen 1 1 y z) (bit (Chosen 1 1 0) refl refl z r) (bit (Chosen 1 1 1) refl refl z r) y q)
    x p

halves : (a b : ℕ) → a / 2 ≡ b / 2 → a % 2 ≡ b % 2 → a ≡ b
halves a b p q = omega arith

pub choose : (k x y z : ℕ) → x < 2 ^ k → z < 2 ^ k → Chosen k x y z
choose zero x y z p q = rw (lt-one p, lt-one q)
choose (suc k) x y z p q =
    let e : 2 ^ suc k ≡ 2 ^ k * 2 = pow-suc 2 k in
    let h : (2 ^ suc k - 1 - x) / 2 ≡ 2 ^ k - 1 - x / 2 = omega arith in
    let l : (2 ^ suc k - 1 - x) % 2 ≡ 1 - x % 2 = omega arith in
    halves _ _
    (simp (and_half, xor_half, h) (choose k (x / 2) (y / 2) (z / 2) (omega arith) (omega arith)))
    (simp (and_odd, xor_odd, l) (one_bit (x % 2) (y % 2) (z % 2) (omega arith) (omega arith) (omega arith)))
  where
    and_half : (a b : ℕ) → bit_and a b / 2 ≡ bit_and (a / 2) (b / 2)
    and_half a b = and_shr a b 1

    xor_half : (a b : ℕ) → bit_xor a b / 2 ≡ bit_xor (a / 2) (b / 2)
    xor_half a b = xor_shr a b 1

    and_odd : (a b : ℕ) → bit_and a b % 2 ≡ bit_and (a % 2) (b % 2)
    and_odd a b = and_mod a b 1

    xor_odd : (a b : ℕ) → bit_xor a b % 2 ≡ bit_xor (a % 2) (b % 2)
    xor_odd a b = xor_mod a b 1
