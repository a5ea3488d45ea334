-- Gathered differences: one step at an index, and that they are zero exactly if the two lists are one.
-- Assumes nothing.
use Prim.Native.Nat.{ℕ, suc, ◌+◌, ◌/◌, ◌<◌, ◌≤◌}
use mathlib.Core.Path.{◌≡◌, refl, sym, ap, ap₂, ◌∙◌}
use mathlib.Core.List.{List, [], ◌∷◌}
use mathlib.Core.Bool.{Bool, true, false, ◌&&◌, true≢false}
use native.Mathlib.Nat.{suc_inj}
use native.Mathlib.Numerals.{add-one}
use native.Mathlib.Omega.{arith}
use lib.Arith.{bin_ind}
use lib.Bits.{bit_or, bit_xor, or_zero_l, or_zero_r, or_step, xor_self, xor_add_and, and_le_l, and_le_r}
use lib.ListN.{length, get_or, drop, drop_of_length-le}
use lib.Seq.{drop-cons}
use lib.Dec.{eqb}
use borrow.Author.Tests.{eqb-true, eq-eqb, ne_eqb}
use Rattle.slices.specs.Bytes.{is_zero, same}
use Rattle.slices.proofs.Laws.{or-zero, same_yes, same_self}
use Rattle.tag_compare.specs.Difference.{different_bits}

-- ---- of numbers
-- two that differ in no bit are one
xor-zero : (a b : ℕ) → bit_xor a b ≡ 0 → a ≡ b
xor-zero a b e = omega (arith, e, xor_add_and a b, and_le_l a b, and_le_r a b)

xor_same : (a b : ℕ) → is_zero (bit_xor a b) ≡ eqb a b
xor_same a b = by (eqb a b) refl
  where
    by : (x : Bool) → eqb a b ≡ x → is_zero (bit_xor a b) ≡ x
    by true e = eq-eqb _ _ (ap (bit_xor a) (sym (eqb-true a b e)) ∙ xor_self a)
    by false e = ne_eqb _ _ (λ z. true≢false (sym (eq-eqb a b (xor-zero a b z)) ∙ e))

or_assoc : (a b c : ℕ) → bit_or (bit_or a b) c ≡ bit_or a (bit_or b c)
or_assoc a =
    bin_ind (λ (n : ℕ). (b c : ℕ) → bit_or (bit_or n b) c ≡ bit_or n (bit_or b c))
    (λ b c. ap (λ (x : ℕ). bit_or x c) (or_zero_l b) ∙ sym (or_zero_l (bit_or b c)))
    (λ n ih b c.
    let p = or_step n b in
    let q = or_step b c in
    let h : bit_or n b / 2 ≡ bit_or (n / 2) (b / 2) = omega (arith, p) in
    let k : bit_or b c / 2 ≡ bit_or (b / 2) (c / 2) = omega (arith, q) in
    let l = ap (λ (x : ℕ). bit_or x (c / 2)) h in
    let r = ap (bit_or (n / 2)) k in
    omega (arith, p, q, l, r, ih (b / 2) (c / 2), or_step (bit_or n b) c, or_step n (bit_or b c)))
    a

-- ---- what is gathered so far, and what is left at i
pub gather_none : (x : ℕ) → bit_or 0 x ≡ x
gather_none = or_zero_l

module _ (s t : List ℕ) (i bits : ℕ) where
  pub gather_more : i < length s → i < length t
      → bit_or bits (different_bits (drop i s) (drop i t)) ≡ bit_or (bit_or bits (bit_xor (get_or s i 0) (get_or t i 0))) (different_bits (drop (i + 1) s) (drop (i + 1) t))
  unfolding different_bits
  gather_more h k =
      rw (add-one, drop-cons s i 0 h, drop-cons t i 0 k)
      (sym (or_assoc bits (bit_xor (get_or s i 0) (get_or t i 0)) (different_bits (drop (suc i) s) (drop (suc i) t))))

  pub gather_done : length s ≤ i → bit_or bits (different_bits (drop i s) (drop i t)) ≡ bits
  unfolding different_bits
  gather_done h = rw (drop_of_length-le s h) (or_zero_r bits)

-- ---- "The gathered number is zero exactly when the tags are equal": of every two lists of one length
pub zero_same : (s t : List ℕ) → length s ≡ length t → is_zero (different_bits s t) ≡ same s t
unfolding different_bits same
zero_same [] [] e = refl
zero_same [] (y ∷ t) e = absurd (omega arith)
zero_same (x ∷ s) [] e = absurd (omega arith)
zero_same (x ∷ s) (y ∷ t) e = or-zero (bit_xor x y) (different_bits s t) ∙ ap₂ ◌&&◌ (xor_same x y) (zero_same s t (suc_inj e))

pub zero_exactly : (s t : List ℕ) → length s ≡ length t → (different_bits s t ≡ 0 → s ≡ t) × (s ≡ t → different_bits s t ≡ 0)
zero_exactly s t e =
    let one : different_bits s t ≡ 0 → s ≡ t = λ z. same_yes s t (sym (zero_same s t e) ∙ eq-eqb _ _ z) in
    let none : s ≡ t → different_bits s t ≡ 0 = λ p. eqb-true _ _ (zero_same s t e ∙ ap (same s) (sym p) ∙ same_self s) in
    (one, none)
