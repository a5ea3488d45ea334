-- A response and a status, as signed numbers of 32 bits. Assumes nothing.
use Prim.Native.Nat.{ℕ, ◌<◌}
use mathlib.Core.Path.{◌≡◌, sym, ap, subst, ◌∙◌}
use native.Mathlib.Omega.{arith}
use lib.IntN.{ℤ, pos}
use lib.Signed.{mag}
use mir.Syntax.{w16, w32}
use mir.Val.{SFits, to_z, of_z}
use mir.Facts.{to_z-of_z, to_z_pos, sfits_widen}

module _ (z : ℤ) (h : mag z < 32768) where
  fits : SFits w16 z
  fits = record { sfits = h }

  pub widens : SFits w32 (to_z w16 (of_z w16 z))
  widens = subst (SFits w32) (sym (to_z-of_z fits)) (sfits_widen tt fits)

  pub widened : to_z w32 (of_z w32 (to_z w16 (of_z w16 z))) ≡ z
  widened = ap (λ (y : ℤ). to_z w32 (of_z w32 y)) (to_z-of_z fits) ∙ to_z-of_z {w = w32} (sfits_widen tt fits)

pub unsigned : (n : ℕ) → n < 256 → to_z w32 n ≡ pos n
unsigned n h = to_z_pos w32 (omega arith)
