-- The pieces of a text between its line feeds. Assumes nothing.
use Prim.Native.Nat.{ℕ, suc, ◌+◌, ◌≤◌, ◌<◌}
use mathlib.Core.Path.{◌≡◌, refl, sym, ap, ◌∙◌}
use mathlib.Core.List.{List, [], ◌∷◌, ◌++◌, map, append-nil, append_assoc}
use native.Mathlib.Omega.{arith}
use lib.Dec.{eqb}
use lib.ListN.{length}
use Rattle.text.specs.Text.{on_first, cut}
use Rattle.text.proofs.Laws.{either}
use Rattle.text.proofs.Joins.{last_piece, last_goes_on, piece_to}
use Rattle.trial_lines.specs.Lines.{lines_of}
use Rattle.trial_io.specs.Printed.{line_of, ended, counted}
use Rattle.trial_io.proofs.OverLong.{line-short}

-- there is a piece at least
pub record First (ps : List (List ℕ)) : Type 0 where
  pub first : List ℕ
  pub others : List (List ℕ)
  pub are : ps ≡ first ∷ others

on_first_lem : (c : ℕ) (ps : List (List ℕ)) → First (on_first c ps)
unfolding on_first
on_first_lem c [] = record { first = c ∷ []; others = []; are = refl }
on_first_lem c (p ∷ ps) = record { first = c ∷ p; others = ps; are = refl }

pub first_of : (t : List ℕ) → First (lines_of t)
unfolding cut
first_of [] = record { first = []; others = []; are = refl }
first_of (c ∷ t) = either (eqb c 10) (λ e. rw e (record { first = []; others = cut 10 t; are = refl })) (λ e. rw e (on_first_lem c (cut 10 t)))

-- the bytes of pieces, one more for each
unfoldable weight : List (List ℕ) → ℕ
weight [] = 0
weight (p ∷ ps) = suc (length p) + weight ps

weight_on : (c : ℕ) (ps : List (List ℕ)) → 0 < weight ps → weight (on_first c ps) ≡ suc (weight ps)
unfolding weight on_first
weight_on c [] h = absurd (omega (arith, h))
weight_on c (p ∷ ps) h = omega arith

weight_lines : (t : List ℕ) → weight (lines_of t) ≡ suc (length t)
unfolding weight cut
weight_lines [] = refl
weight_lines (c ∷ t) =
    let h = weight_lines t in
    either (eqb c 10)
    (λ e. rw e (omega (arith, h)))
    (λ e. rw e (weight_on c (cut 10 t) (omega (arith, h)) ∙ ap suc h))

each-short : (ps : List (List ℕ)) (p : List ℕ) → weight (ps ++ (p ∷ [])) ≤ 65537 → map line_of ps ≡ ps
unfolding weight
each-short [] p h = refl
each-short (q ∷ []) p h =
    let e : length q < 65536 = omega (arith, h) in
    ap (λ (x : List ℕ). x ∷ []) (line-short q e)
each-short (q ∷ r ∷ ps) p h =
    let e : length q < 65536 = omega (arith, h) in
    rw (line-short q e, each-short (r ∷ ps) p (omega (arith, h)))

-- the lines of a text of 65,536 bytes count as they are
pub lines-short : (t : List ℕ) (ps : List (List ℕ)) (p : List ℕ) → length t ≤ 65536 → lines_of t ≡ ps ++ (p ∷ []) → map line_of ps ≡ ps
lines-short t ps p h e = each-short ps p (omega (arith, h, weight_lines t, ap weight e))

pub ended-lines : (ps : List (List ℕ)) (p : List ℕ) → ended (ps ++ (p ∷ [])) ≡ ps
unfolding ended
ended-lines [] p = refl
ended-lines (q ∷ []) p = refl
ended-lines (q ∷ r ∷ ps) p = ap (λ (x : List (List ℕ)). q ∷ x) (ended-lines (r ∷ ps) p)

pub counted_none : (ps : List (List ℕ)) → counted (ps ++ ([] ∷ [])) ≡ ps
unfolding counted
counted_none [] = refl
counted_none (q ∷ []) = refl
counted_none (q ∷ r ∷ ps) = ap (λ (x : List (List ℕ)). q ∷ x) (counted_none (r ∷ ps))

pub counted-some : (ps : List (List ℕ)) (c : ℕ) (p : List ℕ) → counted (ps ++ ((c ∷ p) ∷ [])) ≡ ps ++ ((c ∷ p) ∷ [])
unfolding counted
counted-some [] c p = refl
counted-some (q ∷ []) c p = refl
counted-some (q ∷ r ∷ ps) c p = ap (λ (x : List (List ℕ)). q ∷ x) (counted-some (r ∷ ps) c p)

feed : lines_of (10 ∷ []) ≡ [] ∷ [] ∷ []
unfolding cut
feed = refl

-- a line feed after a text ends its last piece
pub ended_feed : (t : List ℕ) (ps : List (List ℕ)) (p : List ℕ) → lines_of t ≡ ps ++ (p ∷ []) → ended (lines_of (t ++ (10 ∷ []))) ≡ ps ++ (p ∷ [])
ended_feed t ps p e =
    let a : lines_of (p ++ (10 ∷ [])) ≡ (p ++ []) ∷ [] ∷ [] = piece_to 10 p (10 ∷ []) (last_piece 10 t ps p e) [] ([] ∷ []) feed in
    let b : lines_of (p ++ (10 ∷ [])) ≡ p ∷ [] ∷ [] = rw append-nil at a in
    let c : lines_of (t ++ (10 ∷ [])) ≡ (ps ++ (p ∷ [])) ++ ([] ∷ []) =
    last_goes_on 10 t ps p e (10 ∷ [])
    ∙ ap (λ (x : List (List ℕ)). ps ++ x) b
    ∙ sym (append_assoc ps (p ∷ []) ([] ∷ [])) in
    ap ended c ∙ ended-lines (ps ++ (p ∷ [])) []
