-- Laws of texts put one after the other, and how long a number is. Assumes nothing.
use Prim.Native.Nat.{ℕ, ◌+◌, ◌<◌, ◌≤◌, ◌^◌}
use mathlib.Core.Path.{◌≡◌, ◌∙◌}
use mathlib.Core.List.{List, ◌++◌}
use native.Mathlib.Omega.{arith}
use lib.ListN.{length, length-append}
use Rattle.slices.specs.Bytes.{put}
use Rattle.text.specs.Text.{decimal_of}
use Rattle.text.proofs.Laws.{decimal_most, put-put}

-- x is z with t put at at, and p the place after it
pub record Wrote (z : List ℕ) (at : ℕ) (t x : List ℕ) (p : ℕ) : Type 0 where
  pub place : p ≡ at + length t
  pub bytes : x ≡ put z at t

pub then : {z x y t u : List ℕ} {at p q : ℕ} → at ≤ length z → Wrote z at t x p → Wrote x p u y q → Wrote z at (t ++ u) y q
then {z} {x} {y} {t} {u} {at} {p} {q} h a b =
    record {
      place = omega (arith, a.place, b.place, length-append t u);
      bytes = b.bytes ∙ rw (a.bytes, a.place) (put-put z t at h u);
    }

-- the digits of a number that fits 64 bits
pub digits_64 : (n : ℕ) → n < 2 ^ 64 → length (decimal_of n) ≤ 20
digits_64 n h = decimal_most 19 n (omega arith)

-- 32 bits
pub digits_32 : (n : ℕ) → n < 2 ^ 32 → length (decimal_of n) ≤ 10
digits_32 n h = decimal_most 9 n (omega arith)

-- and 16 bits
pub digits_16 : (n : ℕ) → n < 65536 → length (decimal_of n) ≤ 5
digits_16 n h = decimal_most 4 n (omega arith)
