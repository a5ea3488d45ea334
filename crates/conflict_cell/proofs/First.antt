-- The marks before any operation is run.
use Prim.Native.Nat.{ℕ, ◌+◌, ◌<◌, zero, suc}
use mathlib.Core.Path.{◌≡◌, refl, ◌∙◌}
use mathlib.Core.Bool.{Bool, true, false}
use mathlib.Core.List.{List, [], ◌∷◌}
use mathlib.Core.Logic.{⊎_elim}
use native.Mathlib.Decide.{ℕ_discrete}
use native.Mathlib.Nat.{le_of_suc-le-suc}
use native.Mathlib.Omega.{arith}
use lib.ListN.{length, set, replicate, length-replicate, length-set, get_or-replicate}
use lib.Seq.{get_or-set_same, get_or-set_other}
use Rattle.conflict_marks.specs.Marks.{Has, Blank, Joined, marks_at}
use Rattle.conflict_marks.proofs.Stored.{clash, repeated}

-- Only the start value, at 0, is marked.
pub record FirstMarks (start : ℕ) (r : List (List Bool)) : Type 0 where
  pub long : (j : ℕ) → j < 33 → length (marks_at r j) ≡ 256
  pub first : Has (marks_at r 0) start
  pub only : (j v : ℕ) → Has (marks_at r j) v → (j ≡ 0) × (v ≡ start)

-- The start value laid out, before there is a row.
abbrev pub start_places : ℕ → List Bool
start_places start = set (replicate 768 false) (start + 256) true

start-only : (start x : ℕ) → Has (start_places start) x → x ≡ start + 256
start-only start x o = go (ℕ_discrete x (start + 256))
  where
    go : Dec (x ≡ start + 256) → x ≡ start + 256
    go (yes p) = p
    go (no n) = absurd (clash (get_or-set_other (replicate 768 false) (start + 256) x true false n ∙ repeated (λ b. b ≡ false) false false refl refl 768 x) o)

pub start_blank : (start : ℕ) → start < 256 → Blank (start_places start)
start_blank start h = record {
  long = length-set (replicate 768 false) (start + 256) true ∙ length-replicate 768 false;
  middle = λ x o. let e = start-only start x o in (omega arith, omega arith);
}

pub first_marks : (start : ℕ) {into : List Bool} → start < 256 → Joined 256 256 (start_places start) (replicate 256 false) into → FirstMarks start (into ∷ replicate 32 (replicate 256 false))
first_marks start {into} h row = record { long = long; first = row.ran start h marked; only = only }
  where
    marked : Has (start_places start) (256 + start)
    marked =
        let e : 256 + start ≡ start + 256 = omega arith in rw e (get_or-set_same (replicate 768 false) (start + 256) true false (omega (arith, length-replicate 768 false)))

    long : (j : ℕ) → j < 33 → length (marks_at (into ∷ replicate 32 (replicate 256 false)) j) ≡ 256
    long zero lt = row.long
    long (suc j) lt = rw (get_or-replicate {A = List Bool} 32 j (replicate 256 false) [] (le_of_suc-le-suc lt)) (length-replicate 256 false)

    none : (v : ℕ) → Has (replicate 256 false) v → ⊥
    none v o = clash (repeated (λ b. b ≡ false) false false refl refl 256 v) o

    only : (j v : ℕ) → Has (marks_at (into ∷ replicate 32 (replicate 256 false)) j) v → (j ≡ 0) × (v ≡ start)
    only zero v o = (refl, ⊎_elim (λ k. absurd (none v k)) (λ k. let e = start-only start (256 + v) k.1 in omega arith) (row.only v o))
    only (suc j) v o = absurd (repeated (λ s. Has s v → ⊥) (replicate 256 false) [] (none v) (λ o. clash refl o) 32 j o)
