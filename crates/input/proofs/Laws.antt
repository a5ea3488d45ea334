-- What a read leaves, where it brings nothing and where it brings bytes. Assumes nothing.
use Prim.Native.Nat.{ℕ, ◌+◌, ◌-◌, ◌^◌, ◌≤◌, ◌<◌}
use mathlib.Core.Path.{◌≡◌, refl, sym, ◌∙◌}
use mathlib.Core.Bool.{Bool, true, false, true≢false}
use mathlib.Core.List.{List, ◌++◌}
use native.Mathlib.Omega.{arith}
use lib.ListN.{length, take, length-take}
use lib.Seq.{take_at}
use Rattle.input.specs.declared.Brought.{Brought}
use Rattle.input.specs.declared.Brought.TheVariants as B
use Rattle.input.specs.declared.Input.{Input}
use Rattle.input.specs.Reads.{goes_on, Reads}
use Rattle.std.specs.declared.io.Error.{Error}

pub nothing :
    (s x : List ℕ) (held total : ℕ) (b : Brought) →
    held < length s →
    take held x ≡ take held s →
    goes_on b ≡ false →
    (b ≡ B.Limit → 2 ^ 64 - 1 ≤ total + length s) →
    Reads s x held total (record { count = held; total = total; brought = b })
nothing s x held total b h k e l =
    record {
      kept = k;
      behind = omega arith;
      within = omega arith;
      some = λ g. absurd (true≢false (sym g ∙ e));
      none = λ _. refl;
      counted = refl;
      below = λ g. absurd (true≢false (sym g ∙ e));
      limit = l;
    }

-- bytes t written from place `held` on leave those before it
stays : (s t : List ℕ) (held : ℕ) → held < length s → take held (take held s ++ t) ≡ take held s
stays s t held h = take_at (take held s) t held (omega (arith, length-take held s))

-- the input ended or the read failed
pub over :
    (s t : List ℕ) (held total : ℕ) (b : Brought) →
    held < length s →
    goes_on b ≡ false →
    (b ≡ B.Limit → ⊥) →
    Reads s (take held s ++ t) held total (record { count = held; total = total; brought = b })
over s t held total b h e l = nothing s _ held total b h (stays s t held h) e (λ m. absurd (l m))

pub failed_not_limit : {c : Error} → B.Failed c ≡ B.Limit → ⊥
failed_not_limit e = let z : ◌≡◌ {A = ℕ} 0 1 = cc e in omega arith

pub ended_not_limit : B.Ended ≡ B.Limit → ⊥
ended_not_limit e = let z : ◌≡◌ {A = ℕ} 0 1 = cc e in omega arith

-- a byte at the least came, and not more than there was room for
pub bytes :
    (s x : List ℕ) (held total n : ℕ) →
    0 < n →
    held + n ≤ length s →
    total + length s < 2 ^ 64 - 1 →
    take held x ≡ take held s →
    Reads s x held total (record { count = held + n; total = total + n; brought = B.Some })
unfolding goes_on
bytes s x held total n g w l k =
    record {
      kept = k;
      behind = omega arith;
      within = w;
      some = λ _. omega arith;
      none = λ e. absurd (true≢false e);
      counted = omega arith;
      below = λ _. omega arith;
      limit = λ e. absurd (let z : ◌≡◌ {A = ℕ} 0 1 = cc e in omega arith);
    }

-- the same of bytes t written from place `held` on
pub bytes_over :
    (s t : List ℕ) (held total n : ℕ) →
    0 < n →
    held + n ≤ length s →
    total + length s < 2 ^ 64 - 1 →
    Reads s (take held s ++ t) held total (record { count = held + n; total = total + n; brought = B.Some })
bytes_over s t held total n g w l = bytes s _ held total n g w l (stays s t held (omega arith))
