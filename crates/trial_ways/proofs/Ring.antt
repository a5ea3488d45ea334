-- The log of broadcasts, a ring of 512: those still to be taken stay, and the new ones are the pieces of what was written. Assumes nothing.
use Prim.Native.Nat.{ℕ, zero, suc, ◌+◌, ◌*◌, ◌%◌, ◌<◌, ◌≤◌}
use mathlib.Core.Path.{◌≡◌, refl, sym, ap, ◌∙◌}
use mathlib.Core.Logic.{⊎_elim}
use mathlib.Core.List.{List, [], ◌∷◌, ◌++◌}
use lib.ListN.{length, take, drop, length-take, length-drop}
use lib.Seq.{drop-drop}
use native.Mathlib.Omega.{arith}
use native.Mathlib.Nat.{eq-or-lt_of_le, le_of_suc-le-suc}
use Rattle.slices.proofs.Laws.{put-length}
use Rattle.progress.specs.HonestRuns.{Line, pieces}
use Rattle.trial_core.specs.Trial.{logged_broadcast, logged}
use Rattle.trial_ways.proofs.Parts.{part_put, part_other}

apart : (p q : ℕ) → p < q → q < p + 512 → p % 512 ≡ q % 512 → ⊥
apart p q h g e = omega arith

inside : (p : ℕ) → p % 512 * 80 + 80 ≤ 40960
inside p = omega arith

module _ (log bytes : List ℕ) (l : length log ≡ 40960) (passed : ℕ) where
  piece : ℕ → List ℕ
  piece k = take 80 (drop (k * 80) bytes)

  piece_length : (k : ℕ) → k * 80 + 80 ≤ length bytes → length (piece k) ≡ 80
  unfolding piece
  piece_length k h = simp (length-take, length-drop) (omega arith)

  abbrev to : ℕ → List ℕ
  to n = logged log passed n bytes

  pub logged-length : (n : ℕ) → n * 80 ≤ length bytes → length (to n) ≡ 40960
  unfolding logged piece
  logged-length zero h = l
  logged-length (suc n) h =
      let a = inside (passed + n) in
      let p = piece_length n (omega arith) in
      let q = logged-length n (omega arith) in
      put-length (to n) (piece n) ((passed + n) % 512 * 80) (omega arith) ∙ q

  -- a broadcast of which the new ones are less than 512 past
  pub logged-kept : (n p : ℕ) → n * 80 ≤ length bytes → p < passed → passed + n ≤ p + 512 → logged_broadcast (to n) p ≡ logged_broadcast log p
  unfolding logged piece
  logged-kept zero p h b g = refl
  logged-kept (suc n) p h b g =
      let a = inside (passed + n) in
      let z = piece_length n (omega arith) in
      let q = logged-length n (omega arith) in
      part_other (to n) (piece n) 80 ((passed + n) % 512) (p % 512) 80 (omega arith) (omega arith) (omega arith) (apart p (passed + n) (omega arith) (omega arith))
      ∙ logged-kept n p (omega arith) b (omega arith)

  pub logged_new : (n j : ℕ) → n * 80 ≤ length bytes → j < n → n ≤ 512 → logged_broadcast (to n) (passed + j) ≡ take 80 (drop (j * 80) bytes)
  unfolding logged piece
  logged_new zero j h b g = absurd (omega arith)
  logged_new (suc n) j h b g =
      let a = inside (passed + n) in
      let z = piece_length n (omega arith) in
      let q = logged-length n (omega arith) in
      ⊎_elim
      (λ (e : j ≡ n).
      rw e (part_put (to n) (piece n) ((passed + n) % 512 * 80) 80 z (omega arith)))
      (λ (e : j < n).
      part_other (to n) (piece n) 80 ((passed + n) % 512) ((passed + j) % 512) 80 (omega arith) (omega arith) (omega arith) (apart (passed + j) (passed + n) (omega arith) (omega arith))
      ∙ logged_new n j (omega arith) e (omega arith))
      (eq-or-lt_of_le (le_of_suc-le-suc b))

-- ---- the broadcasts from p on, n of them
unfoldable pub log_from : List ℕ → ℕ → ℕ → Line
log_from log p zero = []
log_from log p (suc n) = logged_broadcast log p ∷ log_from log (suc p) n

pub from_append : (log : List ℕ) (p q n k : ℕ) → p + n ≡ q → log_from log p n ++ log_from log q k ≡ log_from log p (n + k)
unfolding log_from
from_append log p q zero k e =
    let f : k ≡ zero + k = omega arith in
    let g : q ≡ p = omega arith in
    ap (λ (x : ℕ). log_from log x k) g ∙ ap (log_from log p) f
from_append log p q (suc n) k e =
    let f : suc (n + k) ≡ suc n + k = omega arith in
    ap (λ (x : Line). logged_broadcast log p ∷ x) (from_append log (suc p) q n k (omega arith)) ∙ ap (log_from log p) f

pub from_same : (log new : List ℕ) (p n q : ℕ) → p + n ≤ q → ((j : ℕ) → p ≤ j → j < q → logged_broadcast new j ≡ logged_broadcast log j)
    → log_from new p n ≡ log_from log p n
unfolding log_from
from_same log new p zero q h f = refl
from_same log new p (suc n) q h f =
    let a = f p (omega arith) (omega arith) in
    let b = from_same log new (suc p) n q (omega arith) (λ j x y. f j (omega arith) y) in
    rw (a, b)

from_pieces : (log bytes : List ℕ) (p n : ℕ) → ((j : ℕ) → j < n → logged_broadcast log (p + j) ≡ take 80 (drop (j * 80) bytes))
    → log_from log p n ≡ pieces n bytes
unfolding log_from pieces
from_pieces log bytes p zero f = refl
from_pieces log bytes p (suc n) f =
    let e : p + 0 ≡ p = omega arith in
    let a : logged_broadcast log p ≡ take 80 bytes = ap (logged_broadcast log) (sym e) ∙ f 0 (omega arith) in
    let g : (j : ℕ) → j < n → logged_broadcast log (suc p + j) ≡ take 80 (drop (j * 80) (drop 80 bytes))
    = λ j h.
    let x : suc p + j ≡ p + suc j = omega arith in
    let y : 80 + j * 80 ≡ suc j * 80 = omega arith in
    ap (logged_broadcast log) x ∙ f (suc j) (omega arith) ∙ ap (λ (z : ℕ). take 80 (drop z bytes)) (sym y) ∙ ap (take 80) (sym (drop-drop (j * 80) 80 bytes)) in
    rw (a, from_pieces log (drop 80 bytes) (suc p) n g)

-- the new broadcasts
pub new_pieces : (log bytes : List ℕ) (passed n : ℕ) → length log ≡ 40960 → n * 80 ≤ length bytes → n ≤ 512
    → log_from (logged log passed n bytes) passed n ≡ pieces n bytes
new_pieces log bytes passed n l h g = from_pieces (logged log passed n bytes) bytes passed n (λ j b. logged_new log bytes l passed n j h b g)
