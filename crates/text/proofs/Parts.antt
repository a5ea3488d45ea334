-- Parts of bytes: those from one place to another. Assumes nothing.
use Prim.Native.Nat.{ℕ, zero, suc, ◌+◌, ◌-◌, ◌≤◌}
use mathlib.Core.Path.{◌≡◌, sym, ap, ◌∙◌}
use mathlib.Core.List.{List, [], ◌∷◌, ◌++◌}
use native.Mathlib.Omega.{arith}
use lib.ListN.{length, take, drop, length-drop, take-append-drop}
use lib.Seq.{drop-drop, take-nil, length-take-le, take-append-add}

drop-take : (i j : ℕ) (l : List ℕ) → drop i (take j l) ≡ take (j - i) (drop i l)
drop-take zero j l = let e : j - 0 ≡ j = omega arith in rw e
drop-take (suc i) zero l = let e : 0 - suc i ≡ 0 = omega arith in rw e
drop-take (suc i) (suc j) [] = sym (take-nil (suc j - suc i))
drop-take (suc i) (suc j) (x ∷ l) = let e : suc j - suc i ≡ j - i = omega arith in rw e (drop-take i j l)

-- the bytes from `at` to n
abbrev pub part : List ℕ → ℕ → ℕ → List ℕ
part s at n = take (n - at) (drop at s)

pub part_drop : (s : List ℕ) (at used n : ℕ) → drop used (part s at n) ≡ part s (at + used) n
part_drop s at used n =
    let e : n - at - used ≡ n - (at + used) = omega arith in
    drop-take used (n - at) (drop at s) ∙ rw (e, drop-drop used at s)

-- from a to e, by way of i
pub part_join : (s : List ℕ) (a i e : ℕ) → a ≤ i → i ≤ e → e ≤ length s → part s a i ++ part s i e ≡ part s a e
part_join s a i e g h k =
    let l : length (part s a i) ≡ i - a = length-take-le (i - a) (drop a s) (simp length-drop (omega arith)) in
    let j : a + (i - a) ≡ i = omega arith in
    let n : e - a ≡ length (part s a i) + (e - i) = omega (arith, l) in
    let d : drop (i - a) (drop a s) ≡ drop i s = drop-drop (i - a) a s ∙ ap (λ (z : ℕ). drop z s) j in
    let w : part s a i ++ drop i s ≡ drop a s = ap (λ (z : List ℕ). part s a i ++ z) (sym d) ∙ take-append-drop (i - a) (drop a s) in
    sym (take-append-add (part s a i) (drop i s) (e - i))
    ∙ ap (take (length (part s a i) + (e - i))) w
    ∙ ap (λ (z : ℕ). take z (drop a s)) (sym n)
