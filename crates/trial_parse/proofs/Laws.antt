-- Laws of a line cut into words. Assumes nothing.
use Prim.Native.Nat.{ℕ}
use mathlib.Core.Path.{◌≡◌, refl, sym, ap, ◌∙◌}
use mathlib.Core.List.{List, [], ◌∷◌}
use lib.ListN.{drop}
use lib.Dec.{eqb}
use Rattle.text.specs.Text.{on_first, cut}
use Rattle.text.proofs.Cuts.{Cut}
use Rattle.text.proofs.Laws.{either}
use Rattle.trial_words.specs.Words.{other, from_words}
use Rattle.trial_parse.specs.Parse.{parse}

more_words : (w v k c a : List ℕ) (x : ℕ) (ws : List (List ℕ)) → from_words (w ∷ v ∷ k ∷ c ∷ a ∷ on_first x ws) ≡ other
unfolding from_words on_first
more_words w v k c a x [] = refl
more_words w v k c a x (u ∷ ws) = refl

pub six_words : (w v k c a t : List ℕ) → from_words (w ∷ v ∷ k ∷ c ∷ a ∷ cut 32 t) ≡ other
unfolding from_words cut
six_words w v k c a [] = refl
six_words w v k c a (x ∷ t) = either (eqb x 32) (λ e. rw e) (λ e. rw e (more_words w v k c a x (cut 32 t)))

pub asks : (s : List ℕ) {ws : List (List ℕ)} → cut 32 s ≡ ws → from_words ws ≡ parse s
unfolding parse
asks s e = sym (ap from_words e)

pub asks_six : {s w v k c a : List ℕ} {i : ℕ} → Cut 32 s (w ∷ v ∷ k ∷ c ∷ a ∷ []) i → other ≡ parse s
asks_six {s} {w} {v} {k} {c} {a} {i} h = sym (six_words w v k c a (drop i s)) ∙ asks s h.pieces
