-- A text cut at a separator, piece by piece, as `find` finds the separators. Assumes nothing.
use Prim.Native.Nat.{ℕ, suc, ◌+◌, ◌-◌, ◌<◌, ◌≤◌}
use mathlib.Core.Path.{◌≡◌, refl, sym, ap, ◌∙◌}
use mathlib.Core.List.{List, [], ◌∷◌, ◌++◌, append_assoc}
use native.Mathlib.Omega.{arith}
use lib.ListN.{length, take, drop, length-drop}
use lib.Seq.{drop-drop, take_all}
use lib.Dec.{eqb}
use Rattle.text.specs.Text.{place_of, on_first, cut}
use Rattle.text.proofs.Laws.{either}

-- no x: one piece
pub cut_none : (x : ℕ) (s : List ℕ) → place_of x s ≡ length s → cut x s ≡ s ∷ []
unfolding cut place_of on_first
cut_none x [] h = refl
cut_none x (c ∷ s) h =
    either (eqb c x) (λ e. let z : 0 ≡ suc (length s) = rw e at h in absurd (omega (arith, z)))
    (λ e. let g : place_of x s ≡ length s = let z : suc (place_of x s) ≡ suc (length s) = rw e at h in omega (arith, z) in rw (e, cut_none x s g))

-- the first piece, and those after the first x
pub cut-some : (x : ℕ) (s : List ℕ) → place_of x s < length s → cut x s ≡ take (place_of x s) s ∷ cut x (drop (suc (place_of x s)) s)
unfolding cut place_of on_first
cut-some x [] h = absurd (omega (arith, h))
cut-some x (c ∷ s) h =
    either (eqb c x) (λ e. rw e)
    (λ e.
    let g : place_of x s < length s = let z : suc (place_of x s) < suc (length s) = rw e at h in omega (arith, z) in
    rw (e, cut-some x s g))

pub place-most : (x : ℕ) (s : List ℕ) → place_of x s ≤ length s
unfolding place_of
place-most x [] = omega arith
place-most x (c ∷ s) = either (eqb c x) (λ e. rw e (omega arith)) (λ e. rw e (omega (arith, place-most x s)))

pub find_most : (x : ℕ) (s : List ℕ) (i : ℕ) → i ≤ length s → i + place_of x (drop i s) ≤ length s
find_most x s i h = omega (arith, h, place-most x (drop i s), length-drop i s)

-- the pieces before i are ws
pub record Cut (x : ℕ) (s : List ℕ) (ws : List (List ℕ)) (i : ℕ) : Type 0 where
  pub within : i ≤ length s
  pub pieces : cut x s ≡ ws ++ cut x (drop i s)

pub cut-start : (x : ℕ) (s : List ℕ) → Cut x s [] 0
cut-start x s = record { within = omega arith; pieces = refl }

-- the first x at or after i is at e, the length where there is none
module _ {x : ℕ} {s : List ℕ} {ws : List (List ℕ)} {i : ℕ} (k : Cut x s ws i) (e : ℕ) (q : e ≡ i + place_of x (drop i s)) where
  width : e - i ≡ place_of x (drop i s)
  width = omega arith

  pub cut_most : e ≤ length s
  cut_most = omega (arith, k.within, place-most x (drop i s), length-drop i s)

  -- what is left is one piece
  pub cut_rest : e ≡ length s → cut x (drop i s) ≡ drop i s ∷ []
  cut_rest g = let w = k.within in cut_none x (drop i s) (omega (arith, length-drop i s))

  pub cut_last : e ≡ length s → cut x s ≡ ws ++ (take (e - i) (drop i s) ∷ [])
  cut_last g =
      let w = k.within in
      let m : length (drop i s) ≤ e - i = omega (arith, length-drop i s) in
      k.pieces ∙ rw (cut_rest g, take_all (e - i) (drop i s) m)

  pub cut_more : (e ≡ length s → ⊥) → Cut x s (ws ++ (take (e - i) (drop i s) ∷ [])) (e + 1)
  cut_more g =
      let w = k.within in
      let m = cut_most in
      let l : place_of x (drop i s) < length (drop i s) = omega (arith, length-drop i s) in
      let n : i + suc (place_of x (drop i s)) ≡ e + 1 = omega arith in
      let d : drop (suc (place_of x (drop i s))) (drop i s) ≡ drop (e + 1) s =
      drop-drop (suc (place_of x (drop i s))) i s ∙ ap (λ (j : ℕ). drop j s) n in
      record {
        within = omega arith;
        pieces =
            k.pieces
            ∙ rw (cut-some x (drop i s) l, width, d) (sym (append_assoc ws (take (place_of x (drop i s)) (drop i s) ∷ []) (cut x (drop (e + 1) s))));
      }
