-- "while 256 or more `BR`s are undelivered to some van": the program's test is the run's. Assumes nothing.
use Prim.Native.Nat.{ℕ, zero, suc, ◌+◌, ◌<◌, ◌≤◌}
use mathlib.Core.Path.{◌≡◌, refl, sym, ap, ◌∙◌}
use mathlib.Core.Logic.{⊎_elim}
use mathlib.Core.List.{List, [], ◌∷◌, ◌++◌}
use mathlib.Core.Bool.{Bool, true, false, ◌||◌, true≢false}
use lib.ListN.{get_or}
use lib.Dec.{leb}
use native.Mathlib.Omega.{arith}
use native.Mathlib.Numerals.{add-one}
use native.Mathlib.Nat.{eq-or-lt_of_le, le_of_suc-le-suc}
use borrow.Author.Tests.{leb-true, leb-false, le-leb, lt-leb}
use Rattle.replica.specs.declared.Replica.{Replica}
use Rattle.progress.specs.HonestRuns.{World, Line}
use Rattle.trial_core.specs.Trial as T
use Rattle.trial_core.specs.Trial.{Lent, queued_reply}
use Rattle.trial_core.specs.declared.Lines.{Lines}
use Rattle.trial_laws.specs.TrialRuns.{broadcasts_in, some_full}
use Rattle.trial_ways.proofs.Parts.{bool_cases}
use Rattle.trial_ways.proofs.Ring.{log_from}
use Rattle.trial_ways.proofs.Ways.{Way, none, some, Quiet}
use Rattle.trial_ways.proofs.Shows.{Shows}

-- ---- how many broadcasts are undelivered
count-append : (x y : Line) → broadcasts_in (x ++ y) ≡ broadcasts_in x + broadcasts_in y
unfolding broadcasts_in
count-append [] y = omega arith
count-append (m ∷ x) y = let e = count-append x y in omega arith

count_from : (log : List ℕ) (p n q : ℕ) → p + n ≤ q → Quiet log p q → broadcasts_in (log_from log p n) ≡ n
unfolding broadcasts_in log_from
count_from log p zero q h Q = refl
count_from log p (suc n) q h Q =
    let e = count_from log (suc p) n q (omega arith) (λ j g k. Q j (omega arith) k) in
    rw (Q p (omega arith) (omega arith)) (omega arith)

module _ (log : List ℕ) (passed next before len : ℕ) (reply : List ℕ) (d : Line) where
  way_count : Quiet log next passed → Way log passed next before len reply d → next + broadcasts_in d ≡ passed
  unfolding broadcasts_in
  way_count Q (none a z e q) =
      let u : broadcasts_in d ≡ broadcasts_in (log_from log next a) = ap broadcasts_in q in
      let v = count_from log next a passed (omega arith) Q in
      omega arith
  way_count Q (some a c x y i e f q) =
      let u : broadcasts_in d ≡ broadcasts_in (log_from log next a ++ (reply ∷ log_from log before c)) = ap broadcasts_in q in
      let v = count-append (log_from log next a) (reply ∷ log_from log before c) in
      let w = count_from log next a passed (omega arith) Q in
      let k = count_from log before c passed (omega arith) (λ j g h. Q j (omega arith) h) in
      let r : broadcasts_in (reply ∷ log_from log before c) ≡ 0 + broadcasts_in (log_from log before c) = rw i in
      omega arith

test_same : (next c passed : ℕ) → next + c ≡ passed → leb 256 c ≡ leb (next + 256) passed
test_same next c passed e =
    ⊎_elim
    (λ (t : leb 256 c ≡ true). t ∙ sym (le-leb (next + 256) passed (let h = leb-true 256 c t in omega arith)))
    (λ (f : leb 256 c ≡ false). f ∙ sym (lt-leb (next + 256) passed (let h = leb-false 256 c f in omega arith)))
    (bool_cases (leb 256 c))

or_no : (a b : Bool) → (a || b) ≡ false → (a ≡ false) × (b ≡ false)
or_no true b e = absurd (true≢false e)
or_no false b e = (refl, e)

module _ (rs : List Replica) (l : Lines) (b : Lent) (w : World) (S : Shows rs l b w) where
  pub undelivered : (i : ℕ) → i < 8 → get_or l.next i 0 + broadcasts_in (w.down (i + 1)) ≡ w.server.passed
  undelivered i h =
      way_count b.log w.server.passed (get_or l.next i 0) (get_or l.before i 0) (get_or l.lengths i 0) (queued_reply l b.replies i) (w.down (i + 1))
      (S.client i h).quiet (S.client i h).way

  pub full_same : (k : ℕ) → k ≤ 8 → T.is_full l.next w.server.passed k ≡ some_full w k
  unfolding T.is_full some_full
  full_same zero h = refl
  full_same (suc k) h =
      let e : leb (get_or l.next k 0 + 256) w.server.passed ≡ leb 256 (broadcasts_in (w.down (suc k)))
      = sym (test_same _ _ _ (undelivered k h)) ∙ ap (λ (n : ℕ). leb 256 (broadcasts_in (w.down n))) (add-one k) in
      let f = full_same k (omega arith) in
      λ j. f j || e j

  not_full : (k : ℕ) → T.is_full l.next w.server.passed k ≡ false → (j : ℕ) → j < k → w.server.passed ≤ get_or l.next j 0 + 255
  unfolding T.is_full
  not_full zero e j h = absurd (omega arith)
  not_full (suc k) e j h =
      let y = or_no (T.is_full l.next w.server.passed k) (leb (get_or l.next k 0 + 256) w.server.passed) e in
      ⊎_elim
      (λ (q : j ≡ k). rw q (let z : w.server.passed < get_or l.next k 0 + 256 = leb-false _ _ y.1 in omega arith))
      (λ (q : j < k). not_full k y.0 j q)
      (eq-or-lt_of_le (le_of_suc-le-suc h))

  pub behind : some_full w 8 ≡ false → (j : ℕ) → j < 8 → w.server.passed ≤ get_or l.next j 0 + 255
  behind e = not_full 8 (full_same 8 (omega arith) ∙ e)
