-- The lines of a text, one after the other, and the pieces between its line feeds. Assumes nothing.
use Prim.Native.Nat.{ℕ, suc, ◌+◌, ◌<◌, ◌≤◌, min}
use mathlib.Core.Path.{◌≡◌, refl, sym, ap, ◌∙◌}
use mathlib.Core.List.{List, [], ◌∷◌, ◌++◌}
use mathlib.Core.Bool.{Bool, true, false, not}
use native.Mathlib.Omega.{arith}
use lib.ListN.{length, get_or, take, drop, drop_of_length-le}
use lib.Dec.{eqb, leb}
use borrow.Author.Tests.{eqb-true, not-true, leb-true, leb-false, le-leb, lt-leb}
use Rattle.slices.specs.Bytes.{all}
use Rattle.slices.proofs.Laws.{and_yes}
use Rattle.text.specs.Text.{place_of, on_first, cut}
use Rattle.text.proofs.Laws.{either}
use Rattle.text.proofs.Cuts.{cut_none, cut-some, place-most}
use Rattle.log_lines.specs.Lines.{less_return, first_line, next_line, piece_lines, lines}
use Rattle.meter_log_laws.specs.Added.{glue, no_feed}
use Rattle.meter_log_laws.proofs.Put.{Some, some}

-- ---- the pieces of a text
on_some : (c : ℕ) (ps : List (List ℕ)) → Some (on_first c ps)
unfolding on_first
on_some c [] = some
on_some c (p ∷ ps) = some

-- of which there is one or more
pub pieces-some : (t : List ℕ) → Some (cut 10 t)
unfolding cut
pieces-some [] = some
pieces-some (c ∷ t) = either (eqb c 10) (λ e. rw e some) (λ e. rw e (on_some c (cut 10 t)))

glue_first : (ps : List (List ℕ)) → Some ps → glue ([] ∷ ps) ≡ 10 ∷ glue ps
unfolding glue
glue_first [] x' = elim x' [ ]
glue_first (p ∷ ps) some = refl

glue_on : (c : ℕ) (ps : List (List ℕ)) → Some ps → glue (on_first c ps) ≡ c ∷ glue ps
unfolding glue on_first
glue_on c [] x' = elim x' [ ]
glue_on c (p ∷ []) some = refl
glue_on c (p ∷ q ∷ ps) some = refl

-- the pieces of a text with line feeds between them are the text
pub glue-cut : (t : List ℕ) → glue (cut 10 t) ≡ t
unfolding glue cut
glue-cut [] = refl
glue-cut (c ∷ t) =
    either (eqb c 10)
    (λ e. rw e (glue_first (cut 10 t) (pieces-some t) ∙ rw (glue-cut t) (ap (λ (x : ℕ). x ∷ t) (sym (eqb-true c 10 e)))))
    (λ e. rw e (glue_on c (cut 10 t) (pieces-some t) ∙ rw (glue-cut t)))

-- pieces without line feeds
pub data Free : List (List ℕ) → Type 0 where
  none : Free []
  more : {p : List ℕ} {ps : List (List ℕ)} → no_feed p ≡ true → Free ps → Free (p ∷ ps)

free_cons : (b : ℕ) (s : List ℕ) → eqb b 10 ≡ false → no_feed s ≡ true → no_feed (b ∷ s) ≡ true
unfolding all
free_cons b s e n = rw (e, n)

free_on : (c : ℕ) {ps : List (List ℕ)} → eqb c 10 ≡ false → Free ps → Free (on_first c ps)
unfolding on_first all
free_on c e none = more (free_cons c [] e refl) none
free_on c e (more {p = p} n r) = more (free_cons c p e n) r

-- the pieces of a text have none
pub cut_free : (t : List ℕ) → Free (cut 10 t)
unfolding cut all
cut_free [] = more refl none
cut_free (c ∷ t) = either (eqb c 10) (λ e. rw e (more refl (cut_free t))) (λ e. rw e (free_on c e (cut_free t)))

module _ (b : ℕ) (s : List ℕ) (n : no_feed (b ∷ s) ≡ true) where
  free_first : eqb b 10 ≡ false
  unfolding all
  free_first = not-true _ (and_yes (not (eqb b 10)) (no_feed s) n).0

  free_rest : no_feed s ≡ true
  unfolding all
  free_rest = (and_yes (not (eqb b 10)) (no_feed s) n).1

cut_alone : (p : List ℕ) → no_feed p ≡ true → cut 10 p ≡ p ∷ []
unfolding cut on_first
cut_alone [] n = refl
cut_alone (b ∷ p) n = rw (free_first b p n, cut_alone p (free_rest b p n))

cut_feed : (p t : List ℕ) → no_feed p ≡ true → cut 10 (p ++ (10 ∷ t)) ≡ p ∷ cut 10 t
unfolding cut on_first
cut_feed [] t n = refl
cut_feed (b ∷ p) t n = rw (free_first b p n, cut_feed p t (free_rest b p n))

-- and pieces without line feeds, with line feeds between them, are the pieces of that text
pub cut-glue : (p : List ℕ) (ps : List (List ℕ)) → Free (p ∷ ps) → cut 10 (glue (p ∷ ps)) ≡ p ∷ ps
unfolding glue
cut-glue p [] (more n r) = cut_alone p n
cut-glue p (q ∷ ps) (more n r) = cut_feed p (glue (q ∷ ps)) n ∙ ap (λ (x : List (List ℕ)). p ∷ x) (cut-glue q ps r)

-- ---- the lines of a text
-- the empty text has none
pub lines_none : lines [] ≡ []
unfolding cut piece_lines
lines_none = refl

-- each piece but the last is a line, less a carriage return
pub lines_more : (p : List ℕ) (ps : List (List ℕ)) → Some ps → piece_lines (p ∷ ps) ≡ less_return p ∷ piece_lines ps
unfolding piece_lines
lines_more p [] x' = elim x' [ ]
lines_more p (q ∷ ps) some = refl

lines_last : (t : List ℕ) → 0 < length t → piece_lines (t ∷ []) ≡ t ∷ []
unfolding piece_lines
lines_last [] h = absurd (omega arith)
lines_last (b ∷ t) h = refl

module _ (t : List ℕ) where
  line_last : length t ≤ place_of 10 t → first_line t ≡ t
  unfolding first_line
  line_last g = rw (le-leb (length t) (place_of 10 t) g)

  line_feed : place_of 10 t < length t → first_line t ≡ less_return (take (place_of 10 t) t)
  unfolding first_line
  line_feed g = rw (lt-leb (length t) (place_of 10 t) g)

  next_last : length t ≤ place_of 10 t → drop (next_line t) t ≡ []
  unfolding next_line
  next_last g = let h : length t ≤ min (place_of 10 t + 1) (length t) = omega arith in drop_of_length-le t h

  next_feed : place_of 10 t < length t → next_line t ≡ suc (place_of 10 t)
  unfolding next_line
  next_feed g = omega arith

  -- the lines of a text that is not empty: its line, and the lines from where the next one begins
  pub lines_step : 0 < length t → lines t ≡ first_line t ∷ lines (drop (next_line t) t)
  lines_step h =
      either (leb (length t) (place_of 10 t))
      (λ e.
      let g : length t ≤ place_of 10 t = leb-true _ _ e in
      let n : place_of 10 t ≡ length t = omega (arith, place-most 10 t) in
      rw (cut_none 10 t n, line_last g, next_last g, lines_none) (lines_last t h))
      (λ e.
      let g : place_of 10 t < length t = leb-false _ _ e in
      rw (cut-some 10 t g, line_feed g, next_feed g) (lines_more (take (place_of 10 t) t) _ (pieces-some (drop (suc (place_of 10 t)) t))))

-- the line of a text is the first of its lines, and empty where there is none
pub line_first : (t : List ℕ) → first_line t ≡ get_or (lines t) 0 []
unfolding first_line place_of
line_first [] = rw lines_none
line_first (b ∷ t) = sym (ap (λ (x : List (List ℕ)). get_or x 0 []) (lines_step (b ∷ t) (omega arith)))

-- ---- a line by itself
-- bytes without the last carriage return have what the bytes have
pub all_less : (p : ℕ → Bool) (s : List ℕ) → all p s ≡ true → all p (less_return s) ≡ true
unfolding all less_return
all_less p [] e = refl
all_less p (b ∷ []) e = either (eqb b 13) (λ x. rw x) (λ x. rw x e)
all_less p (b ∷ c ∷ s) e = let h = and_yes (p b) (all p (c ∷ s)) e in rw h.0 (all_less p (c ∷ s) h.1)

place_free : (s : List ℕ) → no_feed s ≡ true → place_of 10 s ≡ length s
unfolding place_of
place_free [] n = refl
place_free (b ∷ s) n = rw (free_first b s n, place_free s (free_rest b s n))

take_free : (t : List ℕ) → no_feed (take (place_of 10 t) t) ≡ true
unfolding place_of all
take_free [] = refl
take_free (b ∷ t) = either (eqb b 10) (λ e. rw e) (λ e. rw e (free_cons b (take (place_of 10 t) t) e (take_free t)))

free_place : (t : List ℕ) → length t ≤ place_of 10 t → no_feed t ≡ true
unfolding place_of all
free_place [] h = refl
free_place (b ∷ t) h =
    either (eqb b 10)
    (λ e. absurd (let z : suc (length t) ≤ 0 = rw e at h in omega arith))
    (λ e. let z : suc (length t) ≤ suc (place_of 10 t) = rw e at h in free_cons b t e (free_place t (omega arith)))

-- a line has no line feed
pub line_free : (t : List ℕ) → no_feed (first_line t) ≡ true
line_free t =
    either (leb (length t) (place_of 10 t))
    (λ e. let g : length t ≤ place_of 10 t = leb-true _ _ e in rw (line_last t g) (free_place t g))
    (λ e. let g : place_of 10 t < length t = leb-false _ _ e in rw (line_feed t g) (all_less (λ b. not (eqb b 10)) _ (take_free t)))

-- and so it is its own line
pub line-cut : (t : List ℕ) → first_line (first_line t) ≡ first_line t
line-cut t = line_last (first_line t) (omega (arith, place_free (first_line t) (line_free t)))
