-- The quick look: a mark outside the span of the values that answer as u does is one that answers otherwise.
use Prim.Native.Nat.{ℕ, ◌+◌, ◌-◌, ◌<◌}
use mathlib.Core.Path.{◌≡◌, refl}
use mathlib.Core.Bool.{Bool, true, false, ◌||◌}
use mathlib.Core.List.{List}
use mathlib.Core.Logic.{◌↔◌, ⊎_elim}
use native.Mathlib.Decide.{ℕ_discrete, dec_lt}
use native.Mathlib.Omega.{arith}
use Rattle.operation.specs.declared.Operation.{Operation}
use Rattle.operation.specs.Operation.{value_response}
use Rattle.conflict_marks.specs.Marks.{Has, Blank, Laid, SameSpan, Other}
use Rattle.conflict_marks.proofs.Stored.{clash, or_either}

or_left : (a b : Bool) → a ≡ true → (a || b) ≡ true
or_left true b e = refl
or_left false b e = absurd (clash refl e)

or_right : (a b : Bool) → b ≡ true → (a || b) ≡ true
or_right true b e = refl
or_right false b e = e

-- Whether one of the 256 places from `at` on is marked.
abbrev Seen : Bool → ℕ → List Bool → Type 0
Seen b at p = (b ≡ true) ↔ ((k : ℕ) × (k < 256) × Has p (at + k))

pub outside : {e : Operation} {u lo hi : ℕ} {p : List Bool} (x y : Bool) → Blank p → SameSpan e u lo hi → Seen x lo p → Seen y (hi + 256) p → ((x || y) ≡ true) ↔ Other e u p
outside {e} {u} {lo} {hi} {p} x y blank sp a b = (λ q. ⊎_elim low high (or_either x y q), λ (v, o, n). from v o n (dec_lt v lo) (dec_lt v hi))
  where
    low : x ≡ true → Other e u p
    low i =
        let (k, l, o) = a.0 i in
        let m = blank.middle (lo + k) o in
        let z : lo + k ≡ lo + k - 256 + 256 = omega (arith, m.0) in
        (lo + k - 256, rw z at o, λ f. omega (arith, l, m.0, m.1, sp.low, (sp.only (lo + k - 256) (omega (arith, m.0, m.1)) f).0))

    high : y ≡ true → Other e u p
    high i =
        let (k, l, o) = b.0 i in
        let m = blank.middle (hi + 256 + k) o in
        let z : hi + 256 + k ≡ hi + k + 256 = omega arith in
        (hi + k, rw z at o, λ f. omega (arith, (sp.only (hi + k) (omega (arith, m.1)) f).1))

    from : (v : ℕ) → Has p (v + 256) → (value_response e v ≡ value_response e u → ⊥) → Dec (v < lo) → Dec (v < hi) → (x || y) ≡ true
    from v o n (yes l) d =
        let z : v + 256 ≡ lo + (v + 256 - lo) = omega (arith, sp.low) in or_left x y (a.1 (v + 256 - lo, omega arith, rw z at o))
    from v o n (no f) (yes l) = absurd (n (sp.same v (omega arith) l))
    from v o n (no f) (no g) =
        let z : v + 256 ≡ hi + 256 + (v - hi) = omega arith in or_right x y (b.1 (v - hi, omega (arith, (blank.middle (v + 256) o).1), rw z at o))

-- Where the look finds none, each marked value answers as u does.
pub none_other : (e : Operation) (u : ℕ) {s p : List Bool} {b : Bool} → Laid s p → (b ≡ true) ↔ Other e u p → b ≡ false → (v : ℕ) → Has s v → value_response e v ≡ value_response e u
none_other e u {s} {p} {b} y look q v o = go (ℕ_discrete (value_response e v) (value_response e u))
  where
    go : Dec (value_response e v ≡ value_response e u) → value_response e v ≡ value_response e u
    go (yes r) = r
    go (no n) = absurd (clash q (look.1 (v, y.has v o, n)))
