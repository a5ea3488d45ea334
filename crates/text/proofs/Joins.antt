-- A text that comes in parts, cut at a separator. Assumes nothing.
use Prim.Native.Nat.{ℕ}
use mathlib.Core.Path.{◌≡◌, refl, sym, ap, ◌∙◌}
use mathlib.Core.List.{List, [], ◌∷◌, ◌++◌}
use mathlib.Core.Bool.{false}
use lib.Dec.{eqb}
use Rattle.text.specs.Text.{on_first, cut}
use Rattle.text.proofs.Laws.{either}

-- there is a piece at least
record Some (ws : List (List ℕ)) : Type 0 where
  first : List ℕ
  others : List (List ℕ)
  are : ws ≡ first ∷ others

on_some : (c : ℕ) (ws : List (List ℕ)) → Some (on_first c ws)
unfolding on_first
on_some c [] = record { first = c ∷ []; others = []; are = refl }
on_some c (w ∷ ws) = record { first = c ∷ w; others = ws; are = refl }

cut-some_piece : (x : ℕ) (t : List ℕ) → Some (cut x t)
unfolding cut
cut-some_piece x [] = record { first = []; others = []; are = refl }
cut-some_piece x (c ∷ t) =
    either (eqb c x) (λ e. rw e (record { first = []; others = cut x t; are = refl })) (λ e. rw e (on_some c (cut x t)))

-- pieces, the last of which goes on with v, and the pieces vs after it
unfoldable go_on : List (List ℕ) → List ℕ → List (List ℕ) → List (List ℕ)
go_on [] v vs = v ∷ vs
go_on (p ∷ []) v vs = (p ++ v) ∷ vs
go_on (p ∷ q ∷ ps) v vs = p ∷ go_on (q ∷ ps) v vs

module _ (v : List ℕ) (vs : List (List ℕ)) where
  on_go : (c : ℕ) (ps : List (List ℕ)) → on_first c (go_on ps v vs) ≡ go_on (on_first c ps) v vs
  unfolding on_first go_on
  on_go c [] = refl
  on_go c (p ∷ []) = refl
  on_go c (p ∷ q ∷ ps) = refl

  go_next : (ps : List (List ℕ)) → Some ps → [] ∷ go_on ps v vs ≡ go_on ([] ∷ ps) v vs
  unfolding go_on
  go_next ps s = rw s.are

  go_last : (ws : List (List ℕ)) (p : List ℕ) → go_on (ws ++ (p ∷ [])) v vs ≡ ws ++ ((p ++ v) ∷ vs)
  unfolding go_on
  go_last [] p = refl
  go_last (w ∷ []) p = refl
  go_last (w ∷ z ∷ ws) p = ap (λ (r : List (List ℕ)). w ∷ r) (go_last (z ∷ ws) p)

  cut-join : (x : ℕ) (t u : List ℕ) → cut x u ≡ v ∷ vs → cut x (t ++ u) ≡ go_on (cut x t) v vs
  unfolding cut go_on
  cut-join x [] u h = h
  cut-join x (c ∷ t) u h =
      either (eqb c x)
      (λ e. rw (e, cut-join x t u h) (go_next (cut x t) (cut-some_piece x t)))
      (λ e. rw (e, cut-join x t u h) (on_go c (cut x t)))

-- each piece has no separator
data Alone (x : ℕ) : List (List ℕ) → Type 0 where
  none : Alone x []
  more : {p : List ℕ} {ps : List (List ℕ)} → cut x p ≡ p ∷ [] → Alone x ps → Alone x (p ∷ ps)

alone_cons : (x c : ℕ) (p : List ℕ) → eqb c x ≡ false → cut x p ≡ p ∷ [] → cut x (c ∷ p) ≡ (c ∷ p) ∷ []
unfolding cut on_first
alone_cons x c p e h = rw (e, h)

alone_none : (x : ℕ) → cut x [] ≡ [] ∷ []
unfolding cut
alone_none x = refl

alone_on : (x c : ℕ) {ps : List (List ℕ)} → eqb c x ≡ false → Alone x ps → Alone x (on_first c ps)
unfolding on_first
alone_on x c e none = more (alone_cons x c [] e (alone_none x)) none
alone_on x c e (more {p = p} h a) = more (alone_cons x c p e h) a

cut_alone : (x : ℕ) (t : List ℕ) → Alone x (cut x t)
unfolding cut
cut_alone x [] = more (alone_none x) none
cut_alone x (c ∷ t) = either (eqb c x) (λ e. rw e (more (alone_none x) (cut_alone x t))) (λ e. rw e (alone_on x c e (cut_alone x t)))

alone_last : (x : ℕ) (ws : List (List ℕ)) (p : List ℕ) → Alone x (ws ++ (p ∷ [])) → cut x p ≡ p ∷ []
alone_last x [] p (more h a) = h
alone_last x (w ∷ ws) p (more h a) = alone_last x ws p a

module _ (x : ℕ) (t : List ℕ) (ws : List (List ℕ)) (p : List ℕ) (h : cut x t ≡ ws ++ (p ∷ [])) where
  -- the last piece of a text is one piece
  pub last_piece : cut x p ≡ p ∷ []
  last_piece = alone_last x ws p (rw h at (cut_alone x t))

  -- and goes on where the text does
  pub last_goes_on : (u : List ℕ) → cut x (t ++ u) ≡ ws ++ cut x (p ++ u)
  unfolding go_on
  last_goes_on u =
      let s = cut-some_piece x u in
      let a : cut x (t ++ u) ≡ ws ++ ((p ++ s.first) ∷ s.others) = cut-join s.first s.others x t u s.are ∙ rw h (go_last s.first s.others ws p) in
      let b : cut x (p ++ u) ≡ (p ++ s.first) ∷ s.others = cut-join s.first s.others x p u s.are ∙ rw last_piece in
      a ∙ ap (λ (r : List (List ℕ)). ws ++ r) (sym b)

-- a piece that goes on: to the end, or to the next separator
module _ (x : ℕ) (p u : List ℕ) (h : cut x p ≡ p ∷ []) where
  pub piece_all : cut x u ≡ u ∷ [] → cut x (p ++ u) ≡ (p ++ u) ∷ []
  unfolding go_on
  piece_all e = cut-join u [] x p u e ∙ rw h

  pub piece_to : (v : List ℕ) (vs : List (List ℕ)) → cut x u ≡ v ∷ vs → cut x (p ++ u) ≡ (p ++ v) ∷ vs
  unfolding go_on
  piece_to v vs e = cut-join v vs x p u e ∙ rw h
