-- Runs of rounds joined, on a schedule that is not yet whole. Assumes nothing.
use mathlib.Core.Path.{◌≡◌, refl, sym, ap, ap₂, ◌∙◌}
use mathlib.Core.List.{List, [], ◌∷◌}
use Prim.Native.Nat.{ℕ, zero, suc, ◌+◌, ◌-◌, ◌<◌, ◌≤◌}
use native.Mathlib.Nat.{add-zero, add-suc}
use native.Mathlib.Omega.{arith}
use lib.ListN.{length, get_or, take, length-append}
use lib.Seq.{get_or-take, take_all, take-append-le}
use Rattle.sha256_core.specs.declared.State.{State}
use Rattle.sha256_core.specs.Round.{k_table, round_of, round_at}
use Rattle.sha256_block.specs.Block.{next_word, schedule, rounds}
use Rattle.sha256_block.specs.Inner.{steps, rounds_from}

-- t rounds and n more
more : (n t : ℕ) (w : List ℕ) (s : State) → rounds_from n t w (rounds t w s) ≡ rounds (t + n) w s
unfolding steps rounds
more zero t w s = rw add-zero
more (suc n) t w s = rw (add-suc, more n t w s)

-- rounds read only their words
same_words : (n t : ℕ) (v w : List ℕ) (s : State) → ((i : ℕ) → i < t + n → get_or v i 0 ≡ get_or w i 0) → rounds_from n t v s ≡ rounds_from n t w s
unfolding steps round_at
same_words zero t v w s h = refl
same_words (suc n) t v w s h =
    ap₂ (λ x y. round_of x (get_or k_table (t + n) 0) y) (same_words n t v w s (λ i l. h i (omega arith))) (h (t + n) (omega arith))

-- ---- the first words of a schedule
module _ (b : List ℕ) (l : length b ≡ 16) where
  schedule-length : (n : ℕ) → length (schedule n b) ≡ 16 + n
  unfolding schedule
  schedule-length zero = l
  schedule-length (suc n) = length-append (schedule n b) (next_word (schedule n b) (16 + n) ∷ []) ∙ omega (arith, schedule-length n)

  schedule-take : (k d : ℕ) → take (16 + k) (schedule (k + d) b) ≡ schedule k b
  unfolding schedule
  schedule-take k zero = rw add-zero (take_all (16 + k) (schedule k b) (omega (arith, schedule-length k)))
  schedule-take k (suc d) =
      let h : 16 + k ≤ length (schedule (k + d) b) = omega (arith, schedule-length (k + d)) in
      rw add-suc (take-append-le (16 + k) (schedule (k + d) b) (next_word (schedule (k + d) b) (16 + (k + d)) ∷ []) h ∙ schedule-take k d)

  -- of a schedule of m words more, where the first k of them are there: n rounds after t that read no others
  pub part_rounds : (k m n t : ℕ) (w : List ℕ) (s q : State) → k ≤ m → take (16 + k) w ≡ schedule k b → t + n ≤ 16 + k → q ≡ rounds t (schedule m b) s
      → rounds_from n t w q ≡ rounds (t + n) (schedule m b) s
  part_rounds k m n t w s q f e h r =
      let v = schedule m b in
      let d : m ≡ k + (m - k) = omega arith in
      let first : take (16 + k) v ≡ schedule k b = rw d (schedule-take k (m - k)) in
      let word : (i : ℕ) → i < t + n → get_or w i 0 ≡ get_or v i 0 =
      λ i g. sym (get_or-take (16 + k) w i 0 (omega arith)) ∙ ap (λ (x : List ℕ). get_or x i 0) (e ∙ sym first) ∙ get_or-take (16 + k) v i 0 (omega arith)
      in
      same_words n t w v q word ∙ ap (λ (x : State). rounds_from n t v x) r ∙ more n t v s
