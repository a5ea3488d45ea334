-- Laws of the places of a replica: what is held at one, what stays, and what moves when one is confirmed. Assumes nothing.
use Prim.Native.Nat.{ℕ, zero, suc, ◌+◌, ◌-◌, ◌*◌, ◌<◌, ◌≤◌}
use mathlib.Core.Path.{◌≡◌, refl, sym, ap, ◌∙◌}
use mathlib.Core.List.{List, [], ◌∷◌, ◌++◌, append_assoc}
use mathlib.Core.Bool.{true}
use lib.Dec.{leb}
use lib.ListN.{length, get_or, take, drop, replicate, length-append, length-drop, length-take, length-replicate, length-set}
use lib.Seq.{drop-append-add, drop-drop, get_or-drop, take_at, drop-set-lt, get_or-set_same, get_or-set_other}
use native.Mathlib.Omega.{arith}
use Rattle.slices.specs.Bytes.{all, is_zero}
use Rattle.slices.proofs.Laws.{all_drop, all_drop_more, all_append, all_drop-append, all_replicate, all_set, part_left, put-length, drop-put, get_or-zero}
use Rattle.message.specs.Layout.{digest_at}
use Rattle.message.proofs.Laws.{digest-kept, digest-put}
use Rattle.replica.specs.Places.{value_at, status_at, hold_value, hold_status, confirm_value, confirm_status, no_values, no_statuses, statuses_ok, unused_statuses, unused_values}

-- ---- chain values
pub value-length : (c k : ℕ) (chain : List ℕ) → length chain ≡ 1056 → k ≤ 32 → length (value_at c k chain) ≡ 32
unfolding digest_at
value-length c k chain l h = simp (length-take, length-drop) (omega arith)

pub first_value : value_at 0 0 no_values ≡ replicate 32 0
unfolding digest_at
first_value = refl

-- nothing is held
pub no_values_length : length no_values ≡ 1056
no_values_length = length-replicate {A = ℕ} 1056 0

pub none_held : unused_values 0 0 no_values ≡ true
none_held = all_drop is_zero no_values 32 (all_replicate is_zero 1056 0 refl)

pub none_status : unused_statuses 0 0 no_statuses ≡ true
none_status = all_replicate is_zero 32 0 refl

zeros : (n j : ℕ) → get_or {A = ℕ} (replicate n 0) j 0 ≡ 0
zeros zero j = refl
zeros (suc n) zero = refl
zeros (suc n) (suc j) = zeros n j

pub no_status : (j : ℕ) → status_at 0 j no_statuses ≡ 0
no_status j = zeros 32 j

pub none_ok : statuses_ok no_statuses ≡ true
none_ok = all_replicate (λ x. leb x 2) 32 0 refl

-- places past one that is unused
pub unused_more : (c held h : ℕ) (chain : List ℕ) → held ≤ h → unused_values c held chain ≡ true → unused_values c h chain ≡ true
unused_more c held h chain g e = all_drop_more is_zero chain ((held + 1) * 32) ((h + 1) * 32) (omega arith) e

-- a value held at place c + i
module _ (c i : ℕ) (v chain : List ℕ) (l : length v ≡ 32) (s : length chain ≡ 1056) (h : i ≤ 32) where
  pub hold_length : length (hold_value c i v chain) ≡ 1056
  hold_length = put-length chain v (i * 32) (omega arith) ∙ s

  pub value-put : value_at c i (hold_value c i v chain) ≡ v
  value-put = digest-put chain v i l (omega arith)

  pub value-kept : (j : ℕ) → j < i → value_at c j (hold_value c i v chain) ≡ value_at c j chain
  value-kept j g = digest-kept chain v i l (omega arith) j g

  pub hold_unused : (x : ℕ) → i ≤ x → unused_values c x (hold_value c i v chain) ≡ unused_values c x chain
  hold_unused x g = ap (all is_zero) (drop-put chain v (i * 32) ((x + 1) * 32) (omega arith) (omega arith))

-- the chain once place c + 1 is confirmed
module _ (c : ℕ) (v chain : List ℕ) (l : length v ≡ 32) (s : length chain ≡ 1056) where
  pub confirm-length : length (confirm_value c v chain) ≡ 1056
  confirm-length = simp (length-append, length-drop, length-replicate) (omega arith)

  abbrev tail : List ℕ
  tail = drop 64 chain ++ replicate 32 0

  past_first : (x : ℕ) → drop (32 + x) (confirm_value c v chain) ≡ drop x tail
  past_first x =
      ap (drop (32 + x)) (append_assoc v (drop 64 chain) (replicate 32 0))
      ∙ ap (λ (n : ℕ). drop (n + x) (v ++ tail)) (sym l)
      ∙ drop-append-add v tail x

  -- the value at the new c is the one confirmed; the others are at their places
  pub confirm_first : value_at (c + 1) 0 (confirm_value c v chain) ≡ v
  unfolding digest_at
  confirm_first = ap (take 32) (append_assoc v (drop 64 chain) (replicate 32 0)) ∙ take_at v tail 32 l

  pub confirm_moves : (j : ℕ) → 1 ≤ j → j < 32 → value_at (c + 1) j (confirm_value c v chain) ≡ value_at c (j + 1) chain
  unfolding digest_at
  confirm_moves j g h =
      let x = (j - 1) * 32 in
      let p : j * 32 ≡ 32 + x = omega arith in
      let q : (j + 1) * 32 ≡ 64 + x = omega arith in
      let n : x + 32 ≤ length (drop 64 chain) = simp length-drop (omega arith) in
      ap (λ (y : ℕ). take 32 (drop y (confirm_value c v chain))) p
      ∙ ap (take 32) (past_first x)
      ∙ part_left 32 x (drop 64 chain) (replicate 32 0) n
      ∙ ap (take 32) (drop-drop x 64 chain)
      ∙ ap (λ (y : ℕ). take 32 (drop y chain)) (sym q)

  pub confirm_unused : (held : ℕ) → unused_values c held chain ≡ true → unused_values (c + 1) (held - 1) (confirm_value c v chain) ≡ true
  confirm_unused held h =
      let x = (held - 1) * 32 in
      let p : (held - 1 + 1) * 32 ≡ 32 + x = omega arith in
      let d = drop 64 chain in
      ap (λ (y : ℕ). all is_zero (drop y (confirm_value c v chain))) p
      ∙ ap (all is_zero) (past_first x)
      ∙ all_drop-append is_zero d (replicate 32 0) x
      (ap (all is_zero) (drop-drop x 64 chain) ∙ all_drop_more is_zero chain ((held + 1) * 32) (64 + x) (omega arith) h)
      (all_replicate is_zero 32 0 refl)

-- ---- statuses
-- one held at place c + 1 + i
module _ (c i x : ℕ) (s : List ℕ) where
  pub hold_statuses_length : length (hold_status c i x s) ≡ length s
  hold_statuses_length = length-set s i x

  pub status-put : i < length s → status_at c i (hold_status c i x s) ≡ x
  status-put h = get_or-set_same s i x 0 h

  pub status_other : (j : ℕ) → (j ≡ i → ⊥) → status_at c j (hold_status c i x s) ≡ status_at c j s
  status_other j h = get_or-set_other s i j x 0 h

  pub hold_statuses_ok : statuses_ok s ≡ true → leb x 2 ≡ true → statuses_ok (hold_status c i x s) ≡ true
  hold_statuses_ok e h = all_set (λ x. leb x 2) s i x e h

  pub hold_statuses_unused : (held h : ℕ) → held ≤ h → i < h → unused_statuses c held s ≡ true → unused_statuses c h (hold_status c i x s) ≡ true
  hold_statuses_unused held h g k e = ap (all is_zero) (drop-set-lt h s i x k) ∙ all_drop_more is_zero s held h g e

-- those once place c + 1 is confirmed
module _ (c : ℕ) (s : List ℕ) where
  pub confirm_statuses_length : length s ≡ 32 → length (confirm_status c s) ≡ 32
  confirm_statuses_length h = simp (length-append, length-drop) (omega arith)

  pub confirm_status_lem : (j : ℕ) → status_at (c + 1) j (confirm_status c s) ≡ status_at c (j + 1) s
  confirm_status_lem j = let p : 1 + j ≡ j + 1 = omega arith in get_or-zero (drop 1 s) j ∙ get_or-drop 1 s j 0 ∙ ap (λ (x : ℕ). get_or s x 0) p

  pub confirm_statuses_ok : statuses_ok s ≡ true → statuses_ok (confirm_status c s) ≡ true
  confirm_statuses_ok e =
      all_append (λ x. leb x 2) (drop 1 s) (0 ∷ []) (all_drop (λ x. leb x 2) s 1 e) (all_replicate (λ x. leb x 2) 1 0 refl)

  pub confirm_statuses_unused : (held : ℕ) → unused_statuses c held s ≡ true → unused_statuses (c + 1) (held - 1) (confirm_status c s) ≡ true
  confirm_statuses_unused held h =
      all_drop-append is_zero (drop 1 s) (0 ∷ []) (held - 1)
      (ap (all is_zero) (drop-drop (held - 1) 1 s) ∙ all_drop_more is_zero s held (1 + (held - 1)) (omega arith) h)
      (all_replicate is_zero 1 0 refl)
