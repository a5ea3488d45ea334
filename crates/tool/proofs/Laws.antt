-- What an argument is, by the tests that led there; how reading ended. Assumes nothing.
use Prim.Native.Nat.{ℕ}
use mathlib.Core.Path.{◌≡◌, refl, sym, ap, ◌∙◌}
use mathlib.Core.Bool.{Bool, true, false, ◌&&◌}
use mathlib.Core.List.{List, [], ◌∷◌}
use native.Mathlib.Omega.{arith}
use borrow.Author.Tests.{eq-eqb, ne_eqb}
use lib.Dec.{eqb}
use lib.ListN.{length, get_or}
use lib.Pointwise.{pointwise}
use Rattle.std.specs.Prelude.{Some, None}
use Rattle.std.specs.declared.option.Option.{Option}
use Rattle.std.specs.declared.io.Error.{Error}
use Rattle.slices.specs.Bytes.{same}
use Rattle.input.specs.declared.Brought.{Brought}
use Rattle.input.specs.declared.Brought.TheVariants as B
use Rattle.tool.specs.declared.Argument.TheVariants as A
use Rattle.tool.specs.Tool.{kind_of, why_of, is_caused}

same_pointwise : (s t : List ℕ) → same s t ≡ pointwise eqb s t
unfolding same
same_pointwise [] [] = refl
same_pointwise [] (d ∷ t) = refl
same_pointwise (c ∷ s) [] = refl
same_pointwise (c ∷ s) (d ∷ t) = ap (λ (b : Bool). eqb c d && b) (same_pointwise s t)

-- what `==` of slices answers, is whether their bytes are the same
pub same_by : (s t u : List ℕ) (b : Bool) → b ≡ pointwise eqb s t → t ≡ u → same s u ≡ b
same_by s t u b e f = same_pointwise s u ∙ ap (pointwise eqb s) (sym f) ∙ sym e

-- an empty one is a file's name
pub kind_none : (s : List ℕ) → length s ≡ 0 → A.File ≡ kind_of s
unfolding kind_of same
kind_none [] e = refl
kind_none (c ∷ s) e = absurd (omega (arith, e))

module _ (s : List ℕ) where
  pub kind_help : same s (45 ∷ 45 ∷ 104 ∷ 101 ∷ 108 ∷ 112 ∷ []) ≡ true → A.Help ≡ kind_of s
  unfolding kind_of
  kind_help h = rw h

  pub kind_input : same s (45 ∷ 45 ∷ 104 ∷ 101 ∷ 108 ∷ 112 ∷ []) ≡ false → same s (45 ∷ []) ≡ true → A.Input ≡ kind_of s
  unfolding kind_of
  kind_input h i = rw (h, i)

  pub kind_unknown : same s (45 ∷ 45 ∷ 104 ∷ 101 ∷ 108 ∷ 112 ∷ []) ≡ false → same s (45 ∷ []) ≡ false → get_or s 0 0 ≡ 45 → A.Unknown ≡ kind_of s
  unfolding kind_of
  kind_unknown h i e = let q = eq-eqb (get_or s 0 0) 45 e in rw (h, i, q)

  pub kind_file : same s (45 ∷ 45 ∷ 104 ∷ 101 ∷ 108 ∷ 112 ∷ []) ≡ false → same s (45 ∷ []) ≡ false → (get_or s 0 0 ≡ 45 → ⊥) → A.File ≡ kind_of s
  unfolding kind_of
  kind_file h i e = let q = ne_eqb (get_or s 0 0) 45 e in rw (h, i, q)

-- what a read and a write leave has its cause
pub why_caused : (b : Brought) (o : Option Error) → is_caused (why_of b o) ≡ true
unfolding is_caused why_of
why_caused b (Some e) = refl
why_caused B.Some None = refl
why_caused B.Ended None = refl
why_caused (B.Failed e) None = refl
why_caused B.Limit None = refl
