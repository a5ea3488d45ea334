-- A line to a client as the program keeps it: broadcasts of the log, with at most one reply among them. Assumes nothing.
use Prim.Native.Nat.{ℕ, zero, suc, ◌+◌, ◌<◌, ◌≤◌}
use mathlib.Core.Path.{◌≡◌, refl, sym, ap, ◌∙◌}
use mathlib.Core.Logic.{⊎_elim}
use mathlib.Core.List.{List, [], ◌∷◌, ◌++◌, append_assoc}
use mathlib.Core.Bool.{true, false}
use lib.ListN.{drop}
use native.Mathlib.Omega.{arith}
use native.Mathlib.Nat.{eq-or-lt_of_le}
use native.Mathlib.Numerals.{add-one}
use Rattle.message.specs.Message.{is_reply}
use Rattle.progress.specs.HonestRuns.{Line}
use Rattle.progress.proofs.OneWay.{replies, reply-counted, other_to}
use Rattle.trial_core.specs.Trial.{logged_broadcast}
use Rattle.trial_ways.proofs.Parts.{bool_cases}
use Rattle.trial_ways.proofs.Ring.{log_from, from_append, from_same}

-- of `passed` broadcasts `next` are taken; a reply of `len` bytes stands after `before` of them
pub data Way (log : List ℕ) (passed next before len : ℕ) (reply : List ℕ) (d : Line) : Type 0 where
  none : (a : ℕ) → len ≡ 0 → next + a ≡ passed → d ≡ log_from log next a → Way log passed next before len reply d
  some : (a c : ℕ) → 1 ≤ len → len ≤ 1315 → is_reply reply ≡ true → next + a ≡ before → before + c ≡ passed
      → d ≡ log_from log next a ++ (reply ∷ log_from log before c) → Way log passed next before len reply d

-- none of the broadcasts from p to q is a reply
abbrev pub Quiet : List ℕ → ℕ → ℕ → Type 0
Quiet log p q = (j : ℕ) → p ≤ j → j < q → is_reply (logged_broadcast log j) ≡ false

-- ---- counts
replies-append : (x y : Line) → replies (x ++ y) ≡ replies x + replies y
unfolding replies
replies-append [] y = omega arith
replies-append (m ∷ x) y =
    let e = replies-append x y in
    ⊎_elim
    (λ (t : is_reply m ≡ true). rw t (omega arith))
    (λ (f : is_reply m ≡ false). rw f e)
    (bool_cases (is_reply m))

from_quiet : (log : List ℕ) (p n : ℕ) → replies (log_from log p n) ≡ 0 → Quiet log p (p + n)
unfolding replies log_from
from_quiet log p zero e j h g = absurd (omega arith)
from_quiet log p (suc n) e j h g =
    ⊎_elim
    (λ (t : is_reply (logged_broadcast log p) ≡ true). absurd (let z = reply-counted (logged_broadcast log p) (log_from log (suc p) n) t in omega arith))
    (λ (f : is_reply (logged_broadcast log p) ≡ false).
    let z = other_to (logged_broadcast log p) (log_from log (suc p) n) f in
    ⊎_elim
    (λ (q : p ≡ j). ap (λ (x : ℕ). is_reply (logged_broadcast log x)) (sym q) ∙ f)
    (λ (q : p < j). from_quiet log (suc p) n (omega arith) j q (omega arith))
    (eq-or-lt_of_le h))
    (bool_cases (is_reply (logged_broadcast log p)))

-- what stands at the end of a line without replies
pub end_quiet : (log : List ℕ) (d : Line) (p n : ℕ) → replies (d ++ log_from log p n) ≡ 0 → Quiet log p (p + n)
end_quiet log d p n e = let z = replies-append d (log_from log p n) in from_quiet log p n (omega arith)

-- ---- a line that grows
module _ (log : List ℕ) (passed next before len : ℕ) (reply : List ℕ) (d : Line) where
  pub way_low : Way log passed next before len reply d → next ≤ passed
  way_low (none a z e q) = omega arith
  way_low (some a c x y i e f q) = omega arith

  pub way_small : Way log passed next before len reply d → len ≤ 1315
  way_small (none a z e q) = omega arith
  way_small (some a c x y i e f q) = y

  -- the log changes elsewhere
  pub way_log : (new : List ℕ) → ((j : ℕ) → next ≤ j → j < passed → logged_broadcast new j ≡ logged_broadcast log j)
      → Way log passed next before len reply d → Way new passed next before len reply d
  way_log new h (none a z e q) = none a z e (q ∙ sym (from_same log new next a passed (omega arith) h))
  way_log new h (some a c x y i e f q) =
      let u = from_same log new next a passed (omega arith) h in
      let v = from_same log new before c passed (omega arith) (λ j k l. h j (omega arith) l) in
      some a c x y i e f (q ∙ rw (u, v))

  pub way_more : (k : ℕ) → Way log passed next before len reply d → Way log (passed + k) next before len reply (d ++ log_from log passed k)
  way_more k (none a z e q) =
      none (a + k) z (omega arith) (ap (λ (x : Line). x ++ log_from log passed k) q ∙ from_append log next passed a k e)
  way_more k (some a c x y i e f q) =
      let g = log_from log next a in
      let b = log_from log before c in
      let n = log_from log passed k in
      some a (c + k) x y i e (omega arith)
      (ap (λ (z : Line). z ++ n) q
      ∙ append_assoc g (reply ∷ b) n
      ∙ ap (λ (z : Line). g ++ (reply ∷ z)) (from_append log before passed c k f))

  pub way_reply : (m : List ℕ) (k : ℕ) → len ≡ 0 → 1 ≤ k → k ≤ 1315 → is_reply m ≡ true
      → Way log passed next before len reply d → Way log passed next passed k m (d ++ (m ∷ []))
  unfolding log_from
  way_reply m k l x y i (none a z e q) = some a 0 x y i e (omega arith) (ap (λ (z : Line). z ++ (m ∷ [])) q)
  way_reply m k l x y i (some a c u v j e f q) = absurd (omega arith)

  -- ---- where no reply stands, and where a reply or a broadcast is the head
  pub way_idle : replies d ≡ 0 → Way log passed next before len reply d → len ≡ 0
  way_idle r (none a z e q) = z
  way_idle r (some a c x y i e f q) =
      let u = replies-append (log_from log next a) (reply ∷ log_from log before c) in
      let v = reply-counted reply (log_from log before c) i in
      let w : replies d ≡ replies (log_from log next a ++ (reply ∷ log_from log before c)) = ap replies q in
      absurd (omega arith)

  pub way_busy : 1 ≤ len → Way log passed next before len reply d → 1 ≤ replies d
  way_busy h (none a z e q) = absurd (omega arith)
  way_busy h (some a c x y i e f q) =
      let u = replies-append (log_from log next a) (reply ∷ log_from log before c) in
      let v = reply-counted reply (log_from log before c) i in
      let w : replies d ≡ replies (log_from log next a ++ (reply ∷ log_from log before c)) = ap replies q in
      omega arith

  pub way_taken : (m : List ℕ) → 1 ≤ len → before ≡ next → Way log passed next before len reply d
      → (d ≡ reply ∷ drop 1 d) × (is_reply reply ≡ true) × Way log passed next before 0 m (drop 1 d)
  unfolding log_from
  way_taken m h b (none a z e q) = absurd (omega arith)
  way_taken m h b (some zero c x y i e f q) =
      let r : drop 1 d ≡ log_from log before c = ap (drop 1) q in
      (q ∙ ap (λ (z : Line). reply ∷ z) (sym r), i, none c refl (omega arith) (r ∙ ap (λ (z : ℕ). log_from log z c) b))
  way_taken m h b (some (suc a) c x y i e f q) = absurd (omega arith)

  pub way_confirmed : next < passed → (1 ≤ len → len ≤ 1315 → before ≡ next → ⊥) → Way log passed next before len reply d
      → (d ≡ logged_broadcast log next ∷ drop 1 d) × Way log passed (next + 1) before len reply (drop 1 d)
  unfolding log_from
  way_confirmed h b (none zero z e q) = absurd (omega arith)
  way_confirmed h b (none (suc a) z e q) =
      let r : drop 1 d ≡ log_from log (suc next) a = ap (drop 1) q in
      (q ∙ ap (λ (z : Line). logged_broadcast log next ∷ z) (sym r), none a z (omega arith) (r ∙ ap (λ (z : ℕ). log_from log z a) (sym (add-one next))))
  way_confirmed h b (some zero c x y i e f q) = absurd (b x y (omega arith))
  way_confirmed h b (some (suc a) c x y i e f q) =
      let r : drop 1 d ≡ log_from log (suc next) a ++ (reply ∷ log_from log before c) = ap (drop 1) q in (
        q ∙ ap (λ (z : Line). logged_broadcast log next ∷ z) (sym r),
        some a c x y i (omega arith) f (r ∙ ap (λ (z : ℕ). log_from log z a ++ (reply ∷ log_from log before c)) (sym (add-one next))),
      )

  pub way_empty : passed ≤ next → (1 ≤ len → len ≤ 1315 → before ≡ next → ⊥) → Way log passed next before len reply d → d ≡ []
  unfolding log_from
  way_empty h b (none zero z e q) = q
  way_empty h b (none (suc a) z e q) = absurd (omega arith)
  way_empty h b (some a c x y i e f q) = absurd (b x y (omega arith))
