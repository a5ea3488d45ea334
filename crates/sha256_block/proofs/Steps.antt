-- Eight steps, one after the other.
use Rattle.std.proofs.Common.{◌≡◌, ℕ, ◌+◌, add-zero}
use Rattle.sha256_block.specs.Inner.{steps}

pub eight_is : {A : Type 0} (f : ℕ → A → A) (t : ℕ) (a : A) {a₁ a₂ a₃ a₄ a₅ a₆ a₇ a₈ : A} → a₁ ≡ f t a
    → a₂ ≡ f (t + 1) a₁
    → a₃ ≡ f (t + 2) a₂
    → a₄ ≡ f (t + 3) a₃
    → a₅ ≡ f (t + 4) a₄
    → a₆ ≡ f (t + 5) a₅
    → a₇ ≡ f (t + 6) a₆
    → a₈ ≡ f (t + 7) a₇
    → a₈ ≡ steps f 8 t a
unfolding steps
eight_is f t a p q r s u v x y = rw add-zero (cc)
