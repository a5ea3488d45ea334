-- Bytes in hexadecimal: a pair at a time, written and read. Assumes nothing.
use Prim.Native.Nat.{ℕ, zero, suc, ◌+◌, ◌-◌, ◌*◌, ◌/◌, ◌%◌, ◌<◌, ◌≤◌, min}
use mathlib.Core.Path.{◌≡◌, refl, sym, ap, subst, ◌∙◌}
use mathlib.Core.List.{List, [], ◌∷◌}
use mathlib.Core.Bool.{Bool, true, false, and-false}
use native.Mathlib.Numerals.{add-one}
use native.Mathlib.Omega.{arith}
use lib.ListN.{length, get_or, drop, set, length-drop}
use lib.Dec.{leb}
use lib.Seq.{drop-cons, drop-drop, get_or-drop, paste, paste-zero, paste-suc, length-paste, take-length}
use borrow.Author.Tests.{le-leb, lt-leb, leb-true, leb-false}
use Rattle.std.proofs.lemmas.Option.{none-some, cond_some}
use Rattle.std.specs.Prelude.{Some, None}
use Rattle.slices.specs.Bytes.{put}
use Rattle.text_hex.specs.Hex.{hex_digit, hex_value, value_of, hex_of, unhex_of}

either : {C : Type 0} (b : Bool) → (b ≡ true → C) → (b ≡ false → C) → C
either true f g = f refl
either false f g = g refl

-- ---- digits
module _ (c : ℕ) where
  pub value_decimal : 48 ≤ c → c ≤ 57 → value_of c ≡ Some (c - 48)
  unfolding value_of hex_value
  value_decimal h k = let g : c - 48 ≤ 15 = omega (arith, k) in rw (le-leb 48 c h, le-leb c 57 k, le-leb (c - 48) 15 g)

  pub value_letter : 97 ≤ c → c ≤ 102 → value_of c ≡ Some (c - 97 + 10)
  unfolding value_of hex_value
  value_letter h k =
      let g : 57 < c = omega (arith, h) in
      let f : c - 87 ≤ 15 = omega (arith, k) in
      let e : c - 87 ≡ c - 97 + 10 = omega (arith, h) in
      rw (lt-leb c 57 g, le-leb 97 c h, le-leb c 102 k, and-false, le-leb (c - 87) 15 f, e)

  pub value-under : c < 48 → hex_value c ≡ 16
  unfolding hex_value
  value-under h = let g : c < 97 = omega (arith, h) in rw (lt-leb 48 c h, lt-leb 97 c g)

  pub value-between : 57 < c → c < 97 → hex_value c ≡ 16
  unfolding hex_value
  value-between h k = rw (lt-leb c 57 h, lt-leb 97 c k, and-false)

  pub value_over : 102 < c → hex_value c ≡ 16
  unfolding hex_value
  value_over h = let g : 57 < c = omega (arith, h) in rw (lt-leb c 57 g, lt-leb c 102 h, and-false, and-false)

  no_value : hex_value c ≡ 16 → value_of c ≡ None
  unfolding value_of
  no_value e = rw e

  pub none-under : c < 48 → value_of c ≡ None
  none-under h = no_value (value-under h)

  pub none-between : 57 < c → c < 97 → value_of c ≡ None
  none-between h k = no_value (value-between h k)

  pub none_over : 102 < c → value_of c ≡ None
  none_over h = no_value (value_over h)

  module _ {v : ℕ} (e : Some v ≡ value_of c) where
    both : (leb (hex_value c) 15 ≡ true) × (hex_value c ≡ v)
    unfolding value_of
    both = cond_some (leb (hex_value c) 15) (hex_value c) v (sym e)

    pub value_is : v ≡ hex_value c
    value_is = sym both.1

    pub value_digit : hex_value c ≤ 15
    value_digit = leb-true _ 15 both.0

  pub value_none : None ≡ value_of c → 15 < hex_value c
  unfolding value_of
  value_none e =
      either (leb (hex_value c) 15) (λ t. absurd (none-some (hex_value c) (e ∙ rw t))) (λ t. leb-false _ 15 t)

-- what a byte's value is found to be
pub ruleset value_steps = (value_decimal, value_letter, none-under, none-between, none_over)

-- ---- written
pub hex_length : (s : List ℕ) → length (hex_of s) ≡ 2 * length s
unfolding hex_of
hex_length [] = refl
hex_length (x ∷ s) = omega (arith, hex_length s)

hex_high : (s : List ℕ) (i : ℕ) → i < length s → get_or (hex_of s) (2 * i) 0 ≡ hex_digit (get_or s i 0 / 16)
unfolding hex_of
hex_high [] i h = absurd (omega (arith, h))
hex_high (x ∷ s) zero h = refl
hex_high (x ∷ s) (suc i) h =
    let e : 2 * suc i ≡ suc (suc (2 * i)) = omega arith in
    rw e (hex_high s i (omega (arith, h)))

hex_low : (s : List ℕ) (i : ℕ) → i < length s → get_or (hex_of s) (suc (2 * i)) 0 ≡ hex_digit (get_or s i 0 % 16)
unfolding hex_of
hex_low [] i h = absurd (omega (arith, h))
hex_low (x ∷ s) zero h = refl
hex_low (x ∷ s) (suc i) h =
    let e : 2 * suc i ≡ suc (suc (2 * i)) = omega arith in
    rw e (hex_low s i (omega (arith, h)))

-- the first i bytes are written
pub record Wrote (z : List ℕ) (at : ℕ) (s : List ℕ) (i : ℕ) (out : List ℕ) : Type 0 where
  pub within : i ≤ length s
  pub same : out ≡ paste z at (hex_of s) (2 * i)

pub wrote_none : (z : List ℕ) (at : ℕ) (s : List ℕ) → Wrote z at s 0 z
wrote_none z at s = record { within = omega arith; same = paste-zero z at (hex_of s) }

module _ {z : List ℕ} {at : ℕ} {s : List ℕ} {i : ℕ} {out : List ℕ} (r : at + 2 * length s ≤ length z) (w : Wrote z at s i out) where
  pub wrote-length : length out ≡ length z
  wrote-length =
      let h = w.within in
      ap length w.same ∙ length-paste z at (hex_of s) (2 * i) (omega arith) (omega (arith, hex_length s))

  pub wrote_more : (p : ℕ) → p ≡ at + 2 * i → i < length s → Wrote z at s (i + 1) (set (set out p (hex_digit (get_or s i 0 / 16))) (p + 1) (hex_digit (get_or s i 0 % 16)))
  wrote_more p q h =
      let n = hex_length s in
      let one = paste-suc z at (hex_of s) (2 * i) 0 (omega arith) (omega arith) in
      let two = paste-suc z at (hex_of s) (suc (2 * i)) 0 (omega arith) (omega arith) in
      let e : p + 1 ≡ at + suc (2 * i) = omega arith in
      let m : 2 * (i + 1) ≡ suc (suc (2 * i)) = omega arith in
      record {
        within = omega arith;
        same = rw (m, e, q, w.same, ← hex_high s i h, ← hex_low s i h, one, two);
      }

  pub wrote_all : length s ≤ i → out ≡ put z at (hex_of s)
  wrote_all h =
      let k = w.within in
      let e : 2 * i ≡ length (hex_of s) = omega (arith, hex_length s) in
      w.same ∙ ap (λ (n : ℕ). paste z at (hex_of s) n) e ∙ rw (take-length (hex_of s))

-- ---- read
module _ (s : List ℕ) (i : ℕ) where
  pair_at : 2 * i + 1 < length s → drop (2 * i) s ≡ get_or s (2 * i) 0 ∷ get_or s (2 * i + 1) 0 ∷ drop (2 * (i + 1)) s
  pair_at h =
      let e : 2 * (i + 1) ≡ suc (2 * i + 1) = omega arith in
      let g : 2 * i < length s = omega (arith, h) in
      rw (e, drop-cons s (2 * i) 0 g, ← add-one (2 * i), drop-cons s (2 * i + 1) 0 h)

  pub bytes_go :
      2 * i + 1 < length s →
      hex_value (get_or s (2 * i) 0) ≤ 15 →
      hex_value (get_or s (2 * i + 1) 0) ≤ 15 →
      unhex_of (drop (2 * i) s) ≡ (hex_value (get_or s (2 * i) 0) * 16 + hex_value (get_or s (2 * i + 1) 0)) ∷ unhex_of (drop (2 * (i + 1)) s)
  unfolding unhex_of
  bytes_go h a b = rw (pair_at h, le-leb _ 15 a, le-leb _ 15 b)

  pub bytes_high : 2 * i + 1 < length s → 15 < hex_value (get_or s (2 * i) 0) → unhex_of (drop (2 * i) s) ≡ []
  unfolding unhex_of
  bytes_high h a = rw (pair_at h, lt-leb _ 15 a)

  pub bytes_low : 2 * i + 1 < length s → 15 < hex_value (get_or s (2 * i + 1) 0) → unhex_of (drop (2 * i) s) ≡ []
  unfolding unhex_of
  bytes_low h b = rw (pair_at h, lt-leb _ 15 b, and-false)

short : (t : List ℕ) → length t < 2 → unhex_of t ≡ []
unfolding unhex_of
short [] h = refl
short (c ∷ []) h = refl
short (c ∷ d ∷ t) h = absurd (omega (arith, h))

-- the first i bytes are read
pub record Took (z s : List ℕ) (i : ℕ) (out : List ℕ) : Type 0 where
  pub room : i ≤ length z
  pub within : i ≤ length (unhex_of s)
  pub rest : drop i (unhex_of s) ≡ unhex_of (drop (2 * i) s)
  pub same : out ≡ paste z 0 (unhex_of s) i

pub took_none : (z s : List ℕ) → Took z s 0 z
took_none z s = record { room = omega arith; within = omega arith; rest = refl; same = paste-zero z 0 (unhex_of s) }

-- what is answered, and what then stands in the buffer
abbrev pub Answer : List ℕ → List ℕ → List ℕ → ℕ → Type 0
Answer z s out n = (n ≡ min (length (unhex_of s)) (length z)) × (out ≡ paste z 0 (unhex_of s) n)

module _ {z s : List ℕ} {i : ℕ} {out : List ℕ} (w : Took z s i out) where
  took_stop : unhex_of (drop (2 * i) s) ≡ [] → Answer z s out i
  took_stop e =
      let h = w.within in
      let r = w.room in
      let n : length (drop i (unhex_of s)) ≡ 0 = ap length (w.rest ∙ e) in
      (omega (arith, length-drop i (unhex_of s)), w.same)

  took_end : length s / 2 ≤ i → Answer z s out i
  took_end h = took_stop (short (drop (2 * i) s) (omega (arith, length-drop (2 * i) s)))

  pub took-high : i < length s / 2 → 15 < hex_value (get_or s (2 * i) 0) → Answer z s out i
  took-high h a = took_stop (bytes_high s i (omega arith) a)

  pub took-low : i < length s / 2 → 15 < hex_value (get_or s (2 * i + 1) 0) → Answer z s out i
  took-low h b = took_stop (bytes_low s i (omega arith) b)

  took-full : length z ≤ i → Answer z s out i
  took-full h = let k = w.within in let r = w.room in (omega arith, w.same)

  pub took_through : (n : ℕ) → n ≡ min (length z) (length s / 2) → i ≤ n → n ≤ i → Answer z s out n
  took_through n e h k =
      let q : i ≡ n = omega (arith, h, k) in
      subst (Answer z s out) q
      (either (leb (length z) i)
      (λ t. took-full (leb-true (length z) i t))
      (λ t. took_end (omega (arith, e, q, leb-false (length z) i t))))

  pub took_more :
      i < length z →
      i < length s / 2 →
      hex_value (get_or s (2 * i) 0) ≤ 15 →
      hex_value (get_or s (2 * i + 1) 0) ≤ 15 →
      Took z s (i + 1) (set out i (hex_value (get_or s (2 * i) 0) * 16 + hex_value (get_or s (2 * i + 1) 0)))
  took_more r h a b =
      let v = hex_value (get_or s (2 * i) 0) * 16 + hex_value (get_or s (2 * i + 1) 0) in
      let e : drop i (unhex_of s) ≡ v ∷ unhex_of (drop (2 * (i + 1)) s) = w.rest ∙ bytes_go s i (omega arith) a b in
      let l : i < length (unhex_of s) = omega (arith, ap length e, length-drop i (unhex_of s)) in
      let z₀ : i + 0 ≡ i = omega arith in
      let g : get_or (unhex_of s) i 0 ≡ v = sym (get_or-drop i (unhex_of s) 0 0 ∙ ap (λ (k : ℕ). get_or (unhex_of s) k 0) z₀) ∙ ap (λ (t : List ℕ). get_or t 0 0) e in
      let z₁ : 0 + i ≡ i = omega arith in
      let p : set (paste z 0 (unhex_of s) i) i (get_or (unhex_of s) i 0) ≡ paste z 0 (unhex_of s) (suc i) =
      ap (λ (k : ℕ). set (paste z 0 (unhex_of s) i) k (get_or (unhex_of s) i 0)) (sym z₁) ∙ paste-suc z 0 (unhex_of s) i 0 (omega arith) l in
      record {
        room = omega arith;
        within = omega arith;
        rest = sym (drop-drop 1 i (unhex_of s)) ∙ ap (drop 1) e;
        same = rw (w.same, ← g, add-one) p;
      }
