-- the next value over the first of a chain that has moved along
use Prim.Native.Nat.{ℕ, ◌+◌, ◌≤◌}
use mathlib.Core.Path.{◌≡◌, sym, ap, ◌∙◌}
use mathlib.Core.List.{List, ◌++◌, append_assoc}
use native.Mathlib.Omega.{arith}
use borrow.Author.Rules.{rules}
use lib.ListN.{length, drop, replicate, length-drop}
use lib.Seq.{drop-append-le, drop-drop}
use Rattle.slices.specs.Bytes.{put}
use Rattle.client_confirm.proofs.chain_shift.Goals as goal

over_first : (chain next : List ℕ) → length chain ≡ 1056 → length next ≡ 32
    → put (drop 32 chain ++ replicate 32 0) 0 next ≡ next ++ drop 64 chain ++ replicate 32 0
over_first chain next h n =
    let l : 32 ≤ length (drop 32 chain) = omega (arith, length-drop 32 chain) in
    let e : 0 + length next ≡ 32 = omega arith in
    ap (λ (k : ℕ). next ++ drop k (drop 32 chain ++ replicate 32 0)) e
    ∙ ap (λ (y : List ℕ). next ++ y) (drop-append-le 32 (drop 32 chain) (replicate 32 0) l ∙ ap (λ (y : List ℕ). y ++ replicate 32 0) (drop-drop 32 32 chain))
    ∙ sym (append_assoc next (drop 64 chain) (replicate 32 0))

pub returns : goal.returns
returns c =
    let a = c.args in
    let h : length a.chain ≡ 1056 = search rules in
    let n : length a.next ≡ 32 = search rules in
    c.copy_to.ensures
    ∙ ap (λ (z : List ℕ). put z 0 a.next) c.shift.ensures
    ∙ over_first a.chain a.next h n
