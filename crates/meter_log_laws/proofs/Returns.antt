-- Bytes less a carriage return at their end: a sound field stays one, and so a line with a sound field added. Assumes nothing.
use Prim.Native.Nat.{ℕ}
use mathlib.Core.Path.{◌≡◌, refl, sym, ap, ◌∙◌}
use mathlib.Core.List.{List, [], ◌∷◌, ◌++◌, append-nil, append_assoc, append_cancel_left}
use mathlib.Core.Bool.{true, false, not, ◌&&◌}
use lib.Dec.{eqb}
use borrow.Author.Tests.{eqb-true, not-true}
use Rattle.slices.specs.Bytes.{all}
use Rattle.slices.proofs.Laws.{and_yes}
use Rattle.text.proofs.Laws.{either}
use Rattle.log_lines.specs.Lines.{less_return}
use Rattle.meter_log_laws.specs.Grammar.{no_marks, Field, bare, quoted}
use Rattle.meter_log_laws.specs.Added.{add_at, return_of, no_return}
use Rattle.meter_log_laws.proofs.Spot.{Spot, nowhere, before, after, add_spot}

-- ---- bytes less a carriage return at their end
less_append : (f : List ℕ) (c : ℕ) (s : List ℕ) → less_return (f ++ (c ∷ s)) ≡ f ++ less_return (c ∷ s)
unfolding less_return
less_append [] c s = refl
less_append (b ∷ []) c s = refl
less_append (b ∷ d ∷ f) c s = ap (λ (x : List ℕ). b ∷ x) (less_append (d ∷ f) c s)

less_return_lem : (x : List ℕ) → less_return (x ++ (13 ∷ [])) ≡ x
unfolding less_return
less_return_lem x = less_append x 13 [] ∙ append-nil x

less_comma : (s : List ℕ) → less_return (44 ∷ s) ≡ 44 ∷ less_return s
unfolding less_return
less_comma [] = refl
less_comma (b ∷ s) = refl

less_none : (s : List ℕ) → no_return s ≡ true → less_return s ≡ s
unfolding less_return all
less_none [] n = refl
less_none (b ∷ []) n = let e : eqb b 13 ≡ false = not-true _ (and_yes (not (eqb b 13)) true n).0 in rw e
less_none (b ∷ c ∷ s) n = rw (less_none (c ∷ s) (and_yes (not (eqb b 13)) (no_return (c ∷ s)) n).1)

-- a carriage return ends the line before its line feed, or none does
data Ending (p : List ℕ) : Type 0 where
  returned : return_of p ≡ 13 ∷ [] → Ending p
  bared : return_of p ≡ [] → less_return p ≡ p → Ending p

end_more : (b c : ℕ) (s : List ℕ) → Ending (c ∷ s) → Ending (b ∷ c ∷ s)
unfolding less_return return_of
end_more b c s (returned e) = returned e
end_more b c s (bared e g) = bared e (ap (λ (x : List ℕ). b ∷ x) g)

ending : (p : List ℕ) → Ending p
unfolding less_return return_of
ending [] = bared refl refl
ending (b ∷ []) = either (eqb b 13) (λ e. let g : b ≡ 13 = eqb-true b 13 e in returned (rw g)) (λ e. bared (rw e) (rw e))
ending (b ∷ c ∷ s) = end_more b c s (ending (c ∷ s))

-- ---- a field
marks_less : (f : List ℕ) → no_marks f ≡ true → no_marks (less_return f) ≡ true
unfolding no_marks less_return
marks_less [] n = refl
marks_less (b ∷ []) n = either (eqb b 13) (λ e. rw e) (λ e. rw e n)
marks_less (b ∷ c ∷ f) n =
    let h = and_yes (not (eqb b 34) && not (eqb b 44)) (no_marks (c ∷ f)) n in
    rw h.0 (marks_less (c ∷ f) h.1)

quoted_less : (s : List ℕ) → less_return (34 ∷ (s ++ (34 ∷ []))) ≡ 34 ∷ (s ++ (34 ∷ []))
unfolding less_return
quoted_less s = less_append (34 ∷ s) 34 []

-- a sound field less a carriage return is a sound field: in a quoted one a quote comes last
pub field_less : {f : List ℕ} → Field f → Field (less_return f)
field_less {f} (bare n) = bare (marks_less f n)
field_less (quoted s e d) = quoted s (ap less_return e ∙ quoted_less s) d

-- ---- a line with a field added
-- x is the line l with a sound field added at position k: f itself, where that has no carriage return
pub record Left (k : ℕ) (f l x : List ℕ) : Type 0 where
  pub put : List ℕ
  pub field : Field put
  pub kept : no_return f ≡ true → put ≡ f
  pub whole : x ≡ add_at k put l

module _ (k : ℕ) (f l : List ℕ) (o : Field f) where
  left_same : (x : List ℕ) → x ≡ add_at k f l → Left k f l x
  left_same x e = record { put = f; field = o; kept = λ n. refl; whole = e }

  comma_less : (u v : List ℕ) → less_return (u ++ v) ≡ u ++ v → less_return (44 ∷ v) ≡ 44 ∷ v
  unfolding less_return
  comma_less u [] e = refl
  comma_less u (c ∷ v) e = ap (λ (x : List ℕ). 44 ∷ x) (append_cancel_left u (less_return (c ∷ v)) (c ∷ v) (sym (less_append u c v) ∙ e))

  before_less : (u v : List ℕ) → less_return (u ++ v) ≡ u ++ v → less_return (u ++ (f ++ (44 ∷ v))) ≡ u ++ (f ++ (44 ∷ v))
  before_less u v e =
      ap less_return (sym (append_assoc u f (44 ∷ v))) ∙ less_append (u ++ f) 44 v ∙ rw (comma_less u v e) (append_assoc u f (44 ∷ v))

  left_less : less_return l ≡ l → Spot l (λ g. add_at k g l) → Left k f l (less_return (add_at k f l))
  left_less e (nowhere g) = left_same _ (rw (g f) e)
  left_less e (before u v w g) = left_same _ (rw (g f) (before_less u v (rw (← w) e)))
  left_less e (after g) =
      record {
        put = less_return f;
        field = field_less o;
        kept = less_none f;
        whole = rw (g f, g (less_return f)) (less_append l 44 f ∙ rw (less_comma f));
      }

left_ending : (k : ℕ) (f p : List ℕ) → Field f → Ending p → Left k f (less_return p) (less_return (add_at k f (less_return p) ++ return_of p))
left_ending k f p o (returned e) = left_same k f (less_return p) o _ (rw e (less_return_lem (add_at k f (less_return p))))
left_ending k f p o (bared e g) = rw (e, append-nil (add_at k f (less_return p))) (left_less k f (less_return p) o (ap less_return g) (add_spot k (less_return p)))

-- the line of a piece between line feeds with a field added before its end
pub piece_left : (k : ℕ) {f : List ℕ} (p : List ℕ) → Field f → Left k f (less_return p) (less_return (add_at k f (less_return p) ++ return_of p))
piece_left k {f} p o = left_ending k f p o (ending p)
