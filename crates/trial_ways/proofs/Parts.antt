-- Parts of a list in which another part is put. Assumes nothing.
use Prim.Native.Nat.{ℕ, ◌+◌, ◌*◌, ◌<◌, ◌≤◌}
use mathlib.Core.Path.{◌≡◌, refl, sym, ap, ◌∙◌}
use mathlib.Core.Logic.{◌⊎◌, inl, inr, ⊎_elim}
use mathlib.Core.Bool.{Bool, true, false}
use mathlib.Core.List.{List, [], ◌++◌, append_assoc, append-nil}
use lib.ListN.{length, take, drop, take-append-drop}
use lib.Seq.{length-take-le, drop_at, take_at}
use native.Mathlib.Omega.{arith}
use native.Mathlib.Nat.{mul-le-mul_right}
use Rattle.slices.specs.Bytes.{put}
use Rattle.slices.proofs.Laws.{part_left, drop-put}
use Rattle.client_laws.proofs.Chain.{le-or-lt}

pub bool_cases : (t : Bool) → (t ≡ true) ⊎ (t ≡ false)
bool_cases true = inl refl
bool_cases false = inr refl

pub part_put : (s t : List ℕ) (at n : ℕ) → length t ≡ n → at ≤ length s → take n (drop at (put s at t)) ≡ t
part_put s t at n l h =
    let p = take at s in
    let q = drop (at + length t) s in
    ap (λ (z : List ℕ). take n (drop at z)) (append_assoc p t q)
    ∙ ap (take n) (drop_at p (t ++ q) at (length-take-le at s h))
    ∙ take_at t q n l

part_before : (s t : List ℕ) (at n j : ℕ) → at ≤ length s → j + n ≤ at → take n (drop j (put s at t)) ≡ take n (drop j s)
part_before s t at n j h g =
    let p = take at s in
    let l : length p ≡ at = length-take-le at s h in
    ap (λ (z : List ℕ). take n (drop j z)) (append_assoc p t (drop (at + length t) s))
    ∙ part_left n j p (t ++ drop (at + length t) s) (omega arith)
    ∙ sym (part_left n j p (drop at s) (omega arith))
    ∙ ap (λ (z : List ℕ). take n (drop j z)) (take-append-drop at s)

part_after : (s t : List ℕ) (at n j : ℕ) → at ≤ length s → at + length t ≤ j → take n (drop j (put s at t)) ≡ take n (drop j s)
part_after s t at n j h g = ap (take n) (drop-put s t at j h g)

-- parts of at most z at multiples of z, of which j is not the one put
pub part_other : (s t : List ℕ) (z i j n : ℕ) → i * z ≤ length s → length t ≤ z → n ≤ z → (j ≡ i → ⊥)
    → take n (drop (j * z) (put s (i * z) t)) ≡ take n (drop (j * z) s)
part_other s t z i j n h l g e =
    ⊎_elim
    (λ (q : i ≤ j).
    let p : i < j = ⊎_elim (λ (x : j ≤ i). absurd (e (omega arith))) (λ (x : i < j). x) (le-or-lt j i) in
    part_after s t (i * z) n (j * z) h (omega (arith, mul-le-mul_right z p)))
    (λ (q : j < i). part_before s t (i * z) n (j * z) h (omega (arith, mul-le-mul_right z q)))
    (le-or-lt i j)

pub put_none : (s : List ℕ) (at : ℕ) → put s at [] ≡ s
put_none s at =
    let e : at + 0 ≡ at = omega arith in
    ap (λ (x : ℕ). take at s ++ [] ++ drop x s) e
    ∙ ap (λ (z : List ℕ). z ++ drop at s) (append-nil (take at s))
    ∙ take-append-drop at s
