-- Laws of lines, for the functions that cut them. Assumes nothing.
use Prim.Native.Nat.{ℕ, ◌+◌, ◌≤◌}
use mathlib.Core.Path.{◌≡◌, refl, sym, ap, ◌∙◌}
use mathlib.Core.List.{List, [], ◌∷◌, ◌++◌, append-nil, append_assoc}
use mathlib.Core.Bool.{false}
use native.Mathlib.Omega.{arith}
use lib.ListN.{length, take, drop, drop_of_length-le, length-append, take-append-drop}
use lib.Seq.{drop-append-le}
use lib.Dec.{eqb, leb}
use borrow.Author.Tests.{le-leb, lt-leb, ne_eqb}
use Rattle.text.specs.Text.{place_of}
use Rattle.text.proofs.Laws.{either}
use Rattle.text.proofs.Cuts.{place-most}
use Rattle.log_lines.specs.Lines.{less_return, first_line, next_line}

-- ---- a carriage return at the end
pub return_none : (s : List ℕ) → length s ≡ 0 → less_return s ≡ s
unfolding less_return
return_none [] h = refl
return_none (b ∷ s) h = absurd (omega (arith, h))

-- the last byte is one, or is not
off : (r : List ℕ) → less_return (r ++ (13 ∷ [])) ≡ r
unfolding less_return
off [] = refl
off (b ∷ []) = refl
off (b ∷ c ∷ r) = ap (λ (x : List ℕ). b ∷ x) (off (c ∷ r))

stays : (r : List ℕ) (x : ℕ) → eqb x 13 ≡ false → less_return (r ++ (x ∷ [])) ≡ r ++ (x ∷ [])
unfolding less_return
stays [] x e = rw e
stays (b ∷ []) x e = rw e
stays (b ∷ c ∷ r) x e = ap (λ (y : List ℕ). b ∷ y) (stays (c ∷ r) x e)

module _ (s r : List ℕ) (x : ℕ) (h : s ≡ r ++ (x ∷ [])) where
  pub return_off : x ≡ 13 → less_return s ≡ r
  return_off e = rw (h, e) (off r)

  pub return_stays : (x ≡ 13 → ⊥) → less_return s ≡ s
  return_stays e = rw h (stays r x (ne_eqb _ _ e))

-- what the last byte says of a carriage return
pub ruleset return_steps = (return_none, return_off, return_stays)

-- ---- the first line feed at e, the length where there is none
module _ (t : List ℕ) (e : ℕ) (q : e ≡ 0 + place_of 10 t) where
  pub feed_within : e ≤ length t
  feed_within = omega (arith, q, place-most 10 t)

  pub line_all : e ≡ length t → t ≡ first_line t
  unfolding first_line
  line_all h = let n = le-leb (length t) (place_of 10 t) (omega (arith, q, h)) in rw n

  pub line_feed : (e ≡ length t → ⊥) → less_return (take e t) ≡ first_line t
  unfolding first_line
  line_feed h =
      let z : e ≡ place_of 10 t = omega (arith, q) in
      let n = lt-leb (length t) (place_of 10 t) (omega (arith, q, h, feed_within)) in
      rw (z, n)

  pub next_none : e ≡ length t → e ≡ next_line t
  unfolding next_line
  next_none h = omega (arith, q, h)

  pub next_some : (e ≡ length t → ⊥) → e + 1 ≡ next_line t
  unfolding next_line
  next_some h = omega (arith, q, h, feed_within)

-- ---- a line is the front of its text
less_front : (s : List ℕ) → less_return s ++ drop (length (less_return s)) s ≡ s
unfolding less_return
less_front [] = refl
less_front (b ∷ []) = either (eqb b 13) (λ e. rw e) (λ e. rw e)
less_front (b ∷ c ∷ s) = ap (λ (x : List ℕ). b ∷ x) (less_front (c ∷ s))

pub line_front : (t : List ℕ) → first_line t ++ drop (length (first_line t)) t ≡ t
unfolding first_line
line_front t =
    either (leb (length t) (place_of 10 t))
    (λ e. let h : length t ≤ length t = omega arith in rw (e, drop_of_length-le t h) (append-nil t))
    (λ e. rw e (front_less (take (place_of 10 t) t) (drop (place_of 10 t) t) t (take-append-drop (place_of 10 t) t)))
  where
    front_less : (u v w : List ℕ) → u ++ v ≡ w → less_return u ++ drop (length (less_return u)) w ≡ w
    front_less u v w e =
        let f = less_front u in
        let n : length (less_return u) ≤ length u = omega (arith, length-append (less_return u) (drop (length (less_return u)) u), ap length f) in
        let d = drop-append-le (length (less_return u)) u v n in
        rw (← e, d) (sym (append_assoc (less_return u) (drop (length (less_return u)) u) v) ∙ rw f)
