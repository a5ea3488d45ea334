-- A buffer that is filled from its front, text after text. Assumes nothing.
use Prim.Native.Nat.{ℕ, ◌+◌, ◌-◌, ◌≤◌}
use mathlib.Core.Path.{◌≡◌, refl, sym, ap, ◌∙◌}
use mathlib.Core.List.{List, [], ◌++◌}
use native.Mathlib.Omega.{arith}
use lib.ListN.{length, take, drop, length-append, length-take}
use lib.Seq.{drop-drop, take_at}
use Rattle.slices.specs.Bytes.{put}
use Rattle.slices.proofs.Laws.{put-length, drop-put}

-- of a buffer z the first n bytes are now p, and the others are as they were
pub record Filled (z x : List ℕ) (n : ℕ) (p : List ℕ) : Type 0 where
  pub front : take n x ≡ p
  pub rest : drop n x ≡ drop n z
  pub room : n ≤ length z
  pub same : length x ≡ length z

pub filled_none : (z : List ℕ) → Filled z z 0 []
filled_none z = record { front = refl; rest = refl; room = omega arith; same = refl }

front_more : (x t : List ℕ) (n : ℕ) → n + length t ≤ length x → take (n + length t) (put x n t) ≡ take n x ++ t
front_more x t n h =
    let g : length (take n x ++ t) ≡ n + length t = simp (length-append, length-take) (omega arith) in
    take_at (take n x ++ t) (drop (n + length t) x) (n + length t) g

-- and a text put after them
pub filled_more : {z x p : List ℕ} {n : ℕ} → Filled z x n p → (y t : List ℕ) (m : ℕ) → y ≡ put x n t → m ≡ n + length t → m ≤ length z → Filled z y m (p ++ t)
filled_more {z} {x} {p} {n} k y t m e f h =
    let g : n + length t ≤ length x = omega (arith, k.same, f, h) in
    let d : n + (m - n) ≡ m = omega (arith, f) in
    record {
      front = rw (e, f) (front_more x t n g ∙ ap (λ (s : List ℕ). s ++ t) k.front);
      rest =
          ap (drop m) e
          ∙ drop-put x t n m (omega (arith, g)) (omega (arith, f))
          ∙ ap (λ (i : ℕ). drop i x) (sym d)
          ∙ sym (drop-drop (m - n) n x)
          ∙ ap (drop (m - n)) k.rest
          ∙ drop-drop (m - n) n z
          ∙ ap (λ (i : ℕ). drop i z) d;
      room = h;
      same = ap length e ∙ put-length x t n g ∙ k.same;
    }
