-- Document 02, Q-5: "A column added at one position in all lines, with another name, sound quoting and no carriage return or line feed,
-- must leave the entries the same." Here over whole texts. Assumes nothing.
use Prim.Native.Nat.{ℕ, suc}
use mathlib.Core.Path.{◌≡◌, refl}
use mathlib.Core.List.{List, [], ◌∷◌, ◌++◌, append_assoc}
use mathlib.Core.Bool.{Bool, true, not}
use lib.ListN.{length, get_or}
use lib.Dec.{eqb}
use Rattle.slices.specs.Bytes.{all}
use Rattle.slices.proofs.Laws.{and_yes, all_append, all_drop}
use Rattle.text.specs.Text.{cut, non_empty}
use Rattle.log_lines.specs.Lines.{less_return, first_line, piece_lines, lines}
use Rattle.log_columns.specs.Columns.{header_ok}
use Rattle.meter_log.specs.Log.{read_lines, read_log}
use Rattle.meter_log_laws.specs.Grammar.{Field}
use Rattle.meter_log_laws.specs.Added.{add_at, return_of, add_pieces, glue, add_text, no_feed, Column}
use Rattle.meter_log_laws.proofs.Put.{Some, some}
use Rattle.meter_log_laws.proofs.Spot.{Spot, nowhere, before, after, add_spot}
use Rattle.meter_log_laws.proofs.Returns.{piece_left}
use Rattle.meter_log_laws.proofs.Column.{Other, Adds, none, more, head_same, all_same}
use Rattle.meter_log_laws.proofs.Lines.{Free, cut_free, cut-glue, pieces-some, lines_more, line_first, all_less}
use Rattle.meter_log_laws.proofs.Lines as L

-- ---- a line with a field added
any_append : (u : List ℕ) (c : ℕ) (v : List ℕ) → non_empty (u ++ (c ∷ v)) ≡ true
any_append [] c v = refl
any_append (b ∷ u) c v = refl

all_parts : (p : ℕ → Bool) (u v : List ℕ) → all p (u ++ v) ≡ true → (all p u ≡ true) × (all p v ≡ true)
unfolding all
all_parts p [] v e = (refl, e)
all_parts p (b ∷ u) v e =
    let h = and_yes (p b) (all p (u ++ v)) e in
    let i = all_parts p u v h.1 in
    (rw h.0 i.0, i.1)

comma_free : (s : List ℕ) → no_feed s ≡ true → no_feed (44 ∷ s) ≡ true
unfolding all
comma_free s n = n

free_append : (s t : List ℕ) → no_feed s ≡ true → no_feed t ≡ true → no_feed (s ++ t) ≡ true
free_append s t m n = all_append (λ b. not (eqb b 10)) s t m n

return_free : (p : List ℕ) → no_feed p ≡ true → no_feed (return_of p) ≡ true
unfolding return_of
return_free p n = all_drop (λ b. not (eqb b 10)) p (length (less_return p)) n

module _ (k : ℕ) (f : List ℕ) where
  spot_some : (c : ℕ) (l : List ℕ) → Spot (c ∷ l) (λ g. add_at k g (c ∷ l)) → non_empty (add_at k f (c ∷ l)) ≡ true
  spot_some c l (nowhere g) = rw (g f)
  spot_some c l (before u w h g) = rw (g f, ← append_assoc u f (44 ∷ w)) (any_append (u ++ f) 44 w)
  spot_some c l (after g) = rw (g f)

  spot_free : (l : List ℕ) → no_feed f ≡ true → no_feed l ≡ true → Spot l (λ g. add_at k g l) → no_feed (add_at k f l) ≡ true
  spot_free l m n (nowhere g) = rw (g f) n
  spot_free l m n (before u v h g) =
      let i = all_parts (λ b. not (eqb b 10)) u v (rw (← h) n) in
      rw (g f) (free_append u (f ++ (44 ∷ v)) i.0 (free_append f (44 ∷ v) m (comma_free v i.1)))
  spot_free l m n (after g) = rw (g f) (free_append l (44 ∷ f) n (comma_free f m))

-- ---- the pieces of the text with the column are the pieces with its fields
add_pieces_lem : (k : ℕ) (fs : ℕ → List ℕ) (ps : List (List ℕ)) → Some ps → Some (add_pieces k fs ps)
unfolding add_pieces
add_pieces_lem k fs [] x' = elim x' [ ]
add_pieces_lem k fs (p ∷ []) some = some
add_pieces_lem k fs (p ∷ q ∷ ps) some = some

add_free : (k : ℕ) (fs : ℕ → List ℕ) → ((i : ℕ) → no_feed (fs i) ≡ true) → {ps : List (List ℕ)} → Free ps → Free (add_pieces k fs ps)
unfolding add_pieces all
add_free k fs n L.none = L.none
add_free k fs n (L.more {p = []} m L.none) = L.more refl L.none
add_free k fs n (L.more {p = b ∷ l} m L.none) = L.more (spot_free k (fs 0) (b ∷ l) (n 0) m (add_spot k (b ∷ l))) L.none
add_free k fs n (L.more {p = p} m (L.more i r)) =
    let l = less_return p in
    let e : no_feed (add_at k (fs 0) l) ≡ true = spot_free k (fs 0) l (n 0) (all_less (λ b. not (eqb b 10)) p m) (add_spot k l) in
    L.more (free_append (add_at k (fs 0) l) (return_of p) e (return_free p m)) (add_free k (λ i. fs (suc i)) (λ i. n (suc i)) (L.more i r))

pieces_back : (ps : List (List ℕ)) → Some ps → Free ps → cut 10 (glue ps) ≡ ps
pieces_back [] x'' r = elim x'' [ ]
pieces_back (p ∷ ps) some r = cut-glue p ps r

-- ---- and its lines are the lines with its fields
last_added : (k : ℕ) (fs : ℕ → List ℕ) (p : List ℕ) → Field (fs 0) → Adds k fs (piece_lines (p ∷ [])) (piece_lines (add_pieces k fs (p ∷ [])))
unfolding piece_lines add_pieces
last_added k fs [] o = none
last_added k fs (b ∷ l) o = rw (spot_some k (fs 0) b l (add_spot k (b ∷ l))) (more (fs 0) o (λ n. refl) refl none)

pieces_added : (k : ℕ) (fs : ℕ → List ℕ) → ((i : ℕ) → Field (fs i)) → (ps : List (List ℕ)) → Adds k fs (piece_lines ps) (piece_lines (add_pieces k fs ps))
unfolding piece_lines add_pieces
pieces_added k fs o [] = none
pieces_added k fs o (p ∷ []) = last_added k fs p (o 0)
pieces_added k fs o (p ∷ q ∷ ps) =
    let w = piece_left k p (o 0) in
    let r = pieces_added k (λ i. fs (suc i)) (λ i. o (suc i)) (q ∷ ps) in
    rw (lines_more (add_at k (fs 0) (less_return p) ++ return_of p) _ (add_pieces_lem k (λ i. fs (suc i)) (q ∷ ps) some))
    (more w.put w.field w.kept w.whole r)

module _ (k : ℕ) {fs : ℕ → List ℕ} (c : Column fs) (t : List ℕ) where
  -- the lines of the text with the column are the lines of the text, each with a sound field more
  pub lines_added : Adds k fs (lines t) (lines (add_text k fs t))
  unfolding add_text
  lines_added =
      let e : cut 10 (glue (add_pieces k fs (cut 10 t))) ≡ add_pieces k fs (cut 10 t)
      = pieces_back _ (add_pieces_lem k fs (cut 10 t) (pieces-some t)) (add_free k fs c.feeds (cut_free t)) in
      rw e (pieces_added k fs c.each (cut 10 t))

-- ---- what they come to
other_name : {fs : ℕ → List ℕ} → Column fs → Other (fs 0)
other_name c = record { field = c.each 0; not_cell = c.not_cell; not_flow = c.not_flow; not_temp = c.not_temp }

module _ (k : ℕ) {fs : ℕ → List ℕ} (c : Column fs) where
  read_same : {ls ms : List (List ℕ)} → Adds k fs ls ms → read_lines ms ≡ read_lines ls
  unfolding read_lines
  read_same none = refl
  read_same (more {l = l} f p n e r) = rw (e, n c.returns) (all_same k (other_name c) l r)

  first_same : {ls ms : List (List ℕ)} → Adds k fs ls ms → header_ok (get_or ms 0 []) ≡ header_ok (get_or ls 0 [])
  first_same none = refl
  first_same (more {l = l} f p n e r) = rw (e, n c.returns) (head_same k (other_name c) l)

  -- the first line of a text passes check 40 if, and only if, it does with the column
  pub header_same : (t : List ℕ) → header_ok (first_line (add_text k fs t)) ≡ header_ok (first_line t)
  header_same t = rw (line_first (add_text k fs t), line_first t) (first_same (lines_added k c t))

-- what each later line of a text comes to, entry or refusal, is the same with the column and without: for every text and position
pub text_same : (k : ℕ) (fs : ℕ → List ℕ) → Column fs → (t : List ℕ) → read_log (add_text k fs t) ≡ read_log t
unfolding read_log
text_same k fs c t = read_same k c (lines_added k c t)
