-- A byte in two's complement, as the machine's signed numbers have it. Assumes nothing.
use Prim.Native.Nat.{ℕ, ◌≤◌}
use mathlib.Core.Path.{◌≡◌}
use native.Mathlib.Omega.{arith}
use borrow.Author.Tests.{le-leb}
use lib.IntN.{pos, ◌-ℤ◌}
use mir.Syntax.{w16}
use mir.Val.{SFits, to_z}
use mir.Facts.{to_z_pos}
use Rattle.operation.specs.Operation.{signed}
use Rattle.operation.proofs.Signed.{signed_high}

-- small numbers are as they stand
pub plain : (n : ℕ) → n ≤ 511 → to_z w16 n ≡ pos n
plain n h = to_z_pos w16 (omega arith)

pub less_signed : (b : ℕ) → 128 ≤ b → b ≤ 255 → to_z w16 b -ℤ pos 256 ≡ signed b
unfolding signed
less_signed b h l = rw (plain b (omega arith), le-leb 128 b h, le-leb b 255 l)

pub less_fits : (b : ℕ) → 128 ≤ b → b ≤ 255 → SFits w16 (to_z w16 b -ℤ pos 256)
less_fits b h l = rw (less_signed b h l, signed_high b h l) (record { sfits = omega arith })
