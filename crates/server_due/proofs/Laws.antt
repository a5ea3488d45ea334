-- The first zero of the statuses: how many are due. Assumes nothing.
use Prim.Native.Nat.{ℕ, suc, ◌+◌, ◌≤◌}
use mathlib.Core.Path.{◌≡◌, refl, sym, ap, ◌∙◌}
use mathlib.Core.List.{List, [], ◌∷◌}
use mathlib.Core.Bool.{Bool, true, false, cond, not}
use lib.Dec.{ltb}
use lib.ListN.{length}
use native.Mathlib.Omega.{arith}
use borrow.Author.Tests.{ltb-false}
use Rattle.std.specs.Prelude.{Option, Some, None}
use Rattle.std.specs.List.{position_or_len}
use Rattle.std.specs.Option.{unwrap_or}
use Rattle.slices.specs.Bytes.{is_zero}
use Rattle.server.specs.Server.{leading}

by_first : (b : Bool) {m n k : ℕ} → (m ≡ n) × (m ≤ k) → (cond b 0 (suc m) ≡ cond (not b) (1 + n) 0) × (cond b 0 (suc m) ≤ suc k)
by_first true h = (refl, omega arith)
by_first false h = (omega (arith, h.0), omega (arith, h.1))

first_zero : (s : List ℕ) → (leading s ≡ position_or_len is_zero s) × (leading s ≤ length s)
unfolding leading
first_zero [] = (refl, omega arith)
first_zero (x ∷ s) = by_first (is_zero x) (first_zero s)

found : (b : Bool) (q n : ℕ) → ltb q n ≡ b → q ≤ n → unwrap_or (cond b (Some q) None) n ≡ q
found true q n e h = refl
found false q n e h = omega (arith, h, ltb-false q n e)

-- the place of the first zero, and the length where there is none
pub leading_is : (s : List ℕ) (r : Option ℕ) (n : ℕ)
    → r ≡ cond (ltb (position_or_len is_zero s) (length s)) (Some (position_or_len is_zero s)) None → n ≡ unwrap_or r (length s)
    → (n ≡ leading s) × (n ≤ length s)
leading_is s r n e u =
    let h = first_zero s in
    let q = position_or_len is_zero s in
    let l : q ≤ length s = omega (arith, h.0, h.1) in
    let v : n ≡ q = u ∙ ap (λ o. unwrap_or o (length s)) e ∙ found (ltb q (length s)) q (length s) refl l in
    (v ∙ sym h.0, omega (arith, v, l))
