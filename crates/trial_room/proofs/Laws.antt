-- Laws of undelivered broadcasts. Assumes nothing.
use Prim.Native.Nat.{ℕ, ◌+◌}
use mathlib.Core.Path.{◌≡◌, refl, ap, ◌∙◌}
use mathlib.Core.List.{List}
use mathlib.Core.Bool.{Bool, false, ◌||◌}
use lib.Dec.{leb}
use lib.ListN.{get_or}
use native.Mathlib.Numerals.{add-one}
use Rattle.trial_core.specs.Trial.{is_full}

pub full_none : (next : List ℕ) (passed : ℕ) → false ≡ is_full next passed 0
unfolding is_full
full_none next passed = refl

-- one more client
pub full_more : (next : List ℕ) (passed k : ℕ) {f : Bool} → f ≡ is_full next passed k → (f || leb (get_or next k 0 + 256) passed) ≡ is_full next passed (k + 1)
unfolding is_full
full_more next passed k e = rw (add-one k) (ap (λ b. b || leb (get_or next k 0 + 256) passed) e)
