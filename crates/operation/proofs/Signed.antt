-- Laws of bytes in two's complement. Assumes nothing.
use Prim.Native.Nat.{ℕ, suc, ◌-◌, ◌<◌, ◌≤◌}
use mathlib.Core.Path.{◌≡◌, refl, sym, ◌∙◌, ap}
use mathlib.Core.Bool.{Bool, true, false, ◌&&◌, ◌||◌}
use native.Mathlib.Decide.{dec_lt}
use native.Mathlib.Omega.{arith}
use borrow.Author.Tests.{le-leb, lt-leb, lt-ltb, le-ltb}
use lib.Dec.{leb}
use lib.IntN.{pos, negsuc, pos-ne-negsuc, ◌+ℤ◌}
use lib.Signed.{mag, le_z}
use Rattle.operation.specs.Operation.{signed, temp_ok}

-- What a byte stands for.
pub signed_low : (b : ℕ) → b < 128 → signed b ≡ pos b
unfolding signed
signed_low b h = rw (lt-leb 128 b h)

pub signed_high : (b : ℕ) → 128 ≤ b → b ≤ 255 → signed b ≡ negsuc (255 - b)
unfolding signed
signed_high b h l =
    let e : 256 - suc b ≡ 255 - b = omega arith in rw (le-leb 128 b h, le-leb b 255 l, lt-ltb b 256 (omega arith)) (ap negsuc e)

signed-past : (b : ℕ) → 255 < b → signed b ≡ pos b
unfolding signed
signed-past b h = rw (le-leb 128 b (omega arith), lt-leb b 255 h)

-- Two numbers that stand for one are one.
data Stands (b : ℕ) : Type 0 where
  itself : signed b ≡ pos b → Stands b
  less : 128 ≤ b → b ≤ 255 → signed b ≡ negsuc (255 - b) → Stands b

stands : (b : ℕ) → Stands b
stands b = go (dec_lt b 128) (dec_lt 255 b)
  where
    go : Dec (b < 128) → Dec (255 < b) → Stands b
    go (yes h) d = itself (signed_low b h)
    go (no n) (yes h) = itself (signed-past b h)
    go (no n) (no m) = less (omega arith) (omega arith) (signed_high b (omega arith) (omega arith))

pub signed_one : (a b : ℕ) → signed a ≡ signed b → a ≡ b
signed_one a b e = go (stands a) (stands b)
  where
    go : Stands a → Stands b → a ≡ b
    go (itself p) (itself q) = ap mag (sym p ∙ e ∙ q)
    go (itself p) (less h l q) = absurd (pos-ne-negsuc a (255 - b) (sym p ∙ e ∙ q))
    go (less h l p) (itself q) = absurd (pos-ne-negsuc b (255 - a) (sym q ∙ sym e ∙ p))
    go (less h l p) (less i m q) = let z : 255 - a ≡ 255 - b = ap mag (sym p ∙ e ∙ q) in omega arith

-- "a two's complement number": the byte, or 256 less.
pub twos_complement : (b : ℕ) → 128 ≤ b → b ≤ 255 → signed b +ℤ pos 256 ≡ pos b
twos_complement b h l =
    let e : 256 - suc (255 - b) ≡ b = omega arith in rw (signed_high b h l, le-ltb 256 (suc (255 - b)) (omega arith)) (ap pos e)

-- "from −40 to 85", of bytes
or-false : (b : Bool) → (b || false) ≡ b
or-false true = refl
or-false false = refl

pub temp-bytes : (b : ℕ) → b < 256 → (leb b 85 || leb 216 b) ≡ temp_ok b
unfolding temp_ok
temp-bytes b h = go (dec_lt b 128) (dec_lt b 216)
  where
    go : Dec (b < 128) → Dec (b < 216) → (leb b 85 || leb 216 b) ≡ (le_z (negsuc 39) (signed b) && le_z (signed b) (pos 85))
    go (yes l) d = rw (signed_low b l, lt-leb 216 b (omega arith)) (or-false (leb b 85))
    go (no n) (yes l) = rw (signed_high b (omega arith) (omega arith), lt-leb b 85 (omega arith), lt-leb 216 b l, lt-leb (255 - b) 39 (omega arith))
    go (no n) (no m) = rw (signed_high b (omega arith) (omega arith), lt-leb b 85 (omega arith), le-leb 216 b (omega arith), le-leb (255 - b) 39 (omega arith))
