-- A signed number put in decimal, with a minus sign where it is negative. Assumes nothing.
use Prim.Native.Nat.{ℕ, ◌+◌, ◌<◌, ◌≤◌}
use mathlib.Core.Path.{◌≡◌, refl, sym, ap, subst, ◌∙◌}
use mathlib.Core.Bool.{true, false, true≢false}
use mathlib.Core.List.{List, [], ◌∷◌, ◌++◌}
use native.Mathlib.Omega.{arith}
use native.Mathlib.Numerals.{add-one}
use borrow.Author.Tests.{ltb-true}
use lib.ListN.{length}
use lib.IntN.{ℤ, pos, negsuc, nat_abs}
use lib.Signed.{lt_z, nat_abs-le}
use mir.Syntax.{w16}
use mir.Val.{SFits, to_z, of_z}
use Rattle.slices.specs.Bytes.{put}
use Rattle.text.specs.Text.{decimal_of}
use mir.Facts.{to_z-of_z}
use Rattle.text_put.specs.Datum.{datum, signed_datum}
use Rattle.text_put.proofs.Laws.{Wrote, digits_16}

above : (z : ℤ) → lt_z z (pos 0) ≡ false → datum (nat_abs z) ≡ signed_datum z
above (pos n) e = refl
above (negsuc n) e = absurd (true≢false e)

below : (z : ℤ) → lt_z z (pos 0) ≡ true → (32 ∷ 45 ∷ []) ++ decimal_of (nat_abs z) ≡ signed_datum z
below (pos n) e = absurd (omega (arith, ltb-true n 0 e))
below (negsuc n) e = ap (λ (k : ℕ). 32 ∷ 45 ∷ decimal_of k) (sym (add-one n))

module _ (z : ℤ) (f : SFits w16 z) where
  back : to_z w16 (of_z w16 z) ≡ z
  back = to_z-of_z f

  -- its digits, by what `unsigned_abs` answers
  abbrev Is : ℕ → Type 0
  Is n = n ≡ nat_abs (to_z w16 (of_z w16 z))

  small : nat_abs z < 65536
  small = omega (arith, nat_abs-le z f.sfits)

  is : (n : ℕ) → Is n → n ≡ nat_abs z
  is n q = q ∙ ap nat_abs (back)

  pub sized : (n : ℕ) → Is n → length (decimal_of n) ≤ 5
  sized n q = digits_16 n (omega (arith, is n q, small))

  -- the signed number put at `at`
  abbrev Put : List ℕ → ℕ → List ℕ → ℕ → Type 0
  Put old at new p = (p ≡ at + length (signed_datum z)) × (new ≡ put old at (signed_datum z)) × (p ≤ at + 11)

  put-signed : {t old new : List ℕ} {at p : ℕ} → t ≡ signed_datum z → length t ≤ 7 → Wrote old at t new p → Put old at new p
  put-signed {t} {old} {new} {at} {p} e h w =
      let v = subst (λ (u : List ℕ). Wrote old at u new p) e w in (v.place, v.bytes, omega (arith, w.place))

  pub put_above : lt_z (to_z w16 (of_z w16 z)) (pos 0) ≡ false → {old new : List ℕ} {at p n : ℕ} → Is n → Wrote old at (datum n) new p → Put old at new p
  put_above e {n = n} q w = put-signed (ap datum (is n q) ∙ above z (rw (back) at e)) (omega (arith, sized n q)) w

  pub put-below : lt_z (to_z w16 (of_z w16 z)) (pos 0) ≡ true → {old new : List ℕ} {at p n : ℕ} → Is n → Wrote old at ((32 ∷ 45 ∷ []) ++ decimal_of n) new p → Put old at new p
  put-below e {n = n} q w =
      put-signed (ap (λ (k : ℕ). (32 ∷ 45 ∷ []) ++ decimal_of k) (is n q) ∙ below z (rw (back) at e)) (omega (arith, sized n q)) w
