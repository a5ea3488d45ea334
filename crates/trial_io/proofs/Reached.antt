-- How far the reads came: more bytes after an input, and its end. Assumes nothing.
use Prim.Native.Nat.{ℕ, ◌+◌, ◌%◌, ◌^◌, ◌≤◌, ◌<◌}
use mathlib.Core.Path.{◌≡◌, refl, sym, ap, ◌∙◌}
use Rattle.std.specs.Prelude.{IsNone}
use mathlib.Core.Bool.{true, false}
use mathlib.Core.List.{List, [], ◌∷◌, ◌++◌, map, append-nil, append_assoc}
use mathlib.Core.Logic.{◌⊎◌, inl, inr}
use native.Mathlib.Omega.{arith}
use native.Mathlib.Nat.{mod-add-mod}
use borrow.Author.Tests.{leb-true}
use lib.Dec.{leb}
use lib.ListN.{length, take, length-append, length-take}
use Rattle.text.specs.Text.{on_first, cut}
use Rattle.text.proofs.Laws.{either}
use Rattle.text.proofs.Joins.{last_piece, last_goes_on, piece_to}
use Rattle.output.specs.declared.Sent.{Sent}
use Rattle.trial_parse.specs.Parse.{parse}
use Rattle.trial_core.specs.declared.Trial.{Trial}
use Rattle.trial_core.specs.Trial.{Lent, start_trial, start_lent}
use Rattle.trial_bytes.specs.Held.{held_of, last_line}
use Rattle.trial_lines.specs.Lines.{Run, next_run, run_lines, lines_of}
use Rattle.trial_io.specs.Printed.{line_of, ended, counted, run_of, printed_of, printed_whole}
use Rattle.trial_buffer.specs.Whole.{Whole}
use Rattle.trial_io.specs.Reached.{Over, Stands, Reached}
use Rattle.trial_buffer.proofs.Laws.{behind, run_behind, run_append}
use Rattle.trial_io.proofs.OverLong.{over_long-held}
use Rattle.trial_io.proofs.Pieces.{First, first_of, lines-short, ended-lines, counted_none, counted-some, ended_feed}

nul_one : lines_of (0 ∷ []) ≡ (0 ∷ []) ∷ []
unfolding cut on_first
nul_one = refl

-- what is held of a piece stands for it
stands-held : (p : List ℕ) → Stands (held_of 65536 p) p
unfolding held_of
stands-held p =
    either (leb 65536 (length p))
    (λ e. rw e (inr (record { long = leb-true 65536 (length p) e; after = []; nul = refl; one = nul_one })))
    (λ e. rw e (inl refl))

-- and of an over-long one that goes on
over_on : (h p v : List ℕ) → Over h p → lines_of (h ++ v) ≡ (h ++ v) ∷ [] → Over (held_of 65536 (h ++ v)) (p ++ v)
unfolding held_of
over_on h p v o e =
    let l : 65536 ≤ length (p ++ v) = omega (arith, o.long, length-append p v) in
    either (leb 65536 (length (h ++ v)))
    (λ f. rw f (record { long = l; after = []; nul = refl; one = nul_one }))
    (λ f. rw f (record { long = l; after = o.after ++ v; nul = ap (λ (x : List ℕ). x ++ v) o.nul; one = e }))

-- bytes x came after a piece p of the input: its lines now, which do what the buffer's lines did, and what is left
record Next (w : Run) (p x : List ℕ) (answered : List (List ℕ)) (h' : List ℕ) : Type 0 where
  lines : List (List ℕ)
  left : List ℕ
  pieces : lines_of (p ++ x) ≡ lines ++ (left ∷ [])
  run : run_lines w (map line_of lines) ≡ run_lines w answered
  stands : Stands h' left

next_same :
    (w : Run) (p x : List ℕ) (answered : List (List ℕ)) (rest : List ℕ) →
    length (p ++ x) ≤ 65536 →
    lines_of (p ++ x) ≡ answered ++ (rest ∷ []) →
    Next w p x answered (held_of 65536 rest)
next_same w p x answered rest l e =
    record {
      lines = answered;
      left = rest;
      pieces = e;
      run = ap (run_lines w) (lines-short (p ++ x) answered rest l e);
      stands = stands-held rest;
    }

-- the first line is over-long: its bytes do what those held for it did
run_over : (w : Run) (l a : List ℕ) (ls ls' : List (List ℕ)) → parse l ≡ parse a → ls ≡ ls' → run_lines w (l ∷ ls) ≡ run_lines w (a ∷ ls')
unfolding run_lines
run_over w l a ls ls' e f = rw (e, f)

next_over :
    (w : Run) (h p x : List ℕ) (answered : List (List ℕ)) (rest : List ℕ) →
    Over h p →
    lines_of p ≡ p ∷ [] →
    length (h ++ x) ≤ 65536 →
    lines_of (h ++ x) ≡ answered ++ (rest ∷ []) →
    Next w p x answered (held_of 65536 rest)
next_over w h p x [] rest o one l e =
    let f = first_of x in
    let v = f.first in
    let a : lines_of (h ++ x) ≡ (h ++ v) ∷ f.others = piece_to 10 h x o.one v f.others f.are in
    let b : lines_of (p ++ x) ≡ (p ++ v) ∷ f.others = piece_to 10 p x one v f.others f.are in
    let k : rest ∷ [] ≡ (h ++ v) ∷ f.others = sym e ∙ a in
    let kr : rest ≡ h ++ v = cc k in
    let ko : f.others ≡ [] = cc k in
    let z : lines_of rest ≡ rest ∷ [] = last_piece 10 (h ++ x) [] rest e in
    record {
      lines = [];
      left = p ++ v;
      pieces = b ∙ ap (λ (y : List (List ℕ)). (p ++ v) ∷ y) ko;
      run = refl;
      stands = rw kr (inr (over_on h p v o (rw kr at z)));
    }
next_over w h p x (q ∷ qs) rest o one l e =
    let f = first_of x in
    let v = f.first in
    let a : lines_of (h ++ x) ≡ (h ++ v) ∷ f.others = piece_to 10 h x o.one v f.others f.are in
    let b : lines_of (p ++ x) ≡ (p ++ v) ∷ f.others = piece_to 10 p x one v f.others f.are in
    let k : q ∷ (qs ++ (rest ∷ [])) ≡ (h ++ v) ∷ f.others = sym e ∙ a in
    let kq : q ≡ h ++ v = cc k in
    let ko : f.others ≡ qs ++ (rest ∷ []) = cc k in
    let kz : q ≡ 0 ∷ (o.after ++ v) = kq ∙ ap (λ (y : List ℕ). y ++ v) o.nul in
    let s : line_of q ∷ map line_of qs ≡ q ∷ qs = lines-short (h ++ x) (q ∷ qs) rest l e in
    let ss : map line_of qs ≡ qs = cc s in
    let g : 65536 ≤ length (p ++ v) = omega (arith, o.long, length-append p v) in
    record {
      lines = (p ++ v) ∷ qs;
      left = rest;
      pieces = b ∙ ap (λ (y : List (List ℕ)). (p ++ v) ∷ y) ko;
      run = run_over w (line_of (p ++ v)) q (map line_of qs) qs (over_long-held (p ++ v) (o.after ++ v) g ∙ ap parse (sym kz)) ss;
      stands = stands-held rest;
    }

next :
    (w : Run) (h p x : List ℕ) (answered : List (List ℕ)) (rest : List ℕ) →
    Stands h p →
    lines_of p ≡ p ∷ [] →
    length (h ++ x) ≤ 65536 →
    lines_of (h ++ x) ≡ answered ++ (rest ∷ []) →
    Next w p x answered (held_of 65536 rest)
next w h p x answered rest (inl s) one l e = next_same w p x answered rest (rw s at l) (rw s at e)
next w h p x answered rest (inr o) one l e = next_over w h p x answered rest o one l e

map-lines : (ps qs : List (List ℕ)) → map line_of (ps ++ qs) ≡ map line_of ps ++ map line_of qs
map-lines [] qs = refl
map-lines (p ∷ ps) qs = ap (λ (x : List (List ℕ)). line_of p ∷ x) (map-lines ps qs)

run_of_append : (ps qs : List (List ℕ)) → run_of (ps ++ qs) ≡ run_lines (run_of ps) (map line_of qs)
unfolding run_of
run_of_append ps qs = rw (map-lines ps qs) (run_append _ (map line_of ps) (map line_of qs))

module _
    {input : List ℕ} {t : Trial} {b : Lent} {number : ℕ} {s : Sent} {h : List ℕ}
    (k : Reached input t b number s h)
    (x : List ℕ)
    {buf : List ℕ} {n : ℕ} {t' : Trial} {b' : Lent} {buf' : List ℕ} {number' : ℕ} {s' : Sent} {held' : ℕ}
    (w : Whole t b buf number s n t' b' buf' number' s' held')
    (came : take n buf ≡ h ++ x)
    (room : length buf ≡ 65536) where
  abbrev after : Next (run_of k.lines) k.left x w.answered (held_of 65536 w.rest)
  after =
      next (run_of k.lines) h k.left x w.answered w.rest k.stands (last_piece 10 input k.lines k.left k.pieces)
      (omega (arith, room, length-take n buf, ap length came))
      (rw came at w.lines)

  -- all that was answered and printed is that of the input and the bytes that came
  pub reached_more : Reached (input ++ x) t' b' number' s' (take held' buf')
  reached_more =
      let R : Run = record { trial = t; lent = b; number = number; printed = [] } in
      let p = k.printed in
      let q : behind p R ≡ run_of k.lines = rw append-nil k.run in
      let kept : take held' buf' ≡ held_of 65536 w.rest = w.kept ∙ ap (λ (z : ℕ). held_of z w.rest) room in
      record {
        lines = k.lines ++ after.lines;
        left = after.left;
        printed = p ++ w.printed;
        pieces =
            last_goes_on 10 input k.lines k.left k.pieces x
            ∙ ap (λ (y : List (List ℕ)). k.lines ++ y) after.pieces
            ∙ sym (append_assoc k.lines after.lines (after.left ∷ []));
        run =
            ap (behind p) w.run
            ∙ sym (run_behind p R w.answered)
            ∙ ap (λ (y : Run). run_lines y w.answered) q
            ∙ sym after.run
            ∙ sym (run_of_append k.lines after.lines);
        stands = rw kept after.stands;
        sent = λ g.
            w.sends.counted g
            ∙ ap (λ (y : ℕ). (y + length w.printed) % 2 ^ 64) (k.sent (w.sends.before g))
            ∙ mod-add-mod (length p) (2 ^ 64) (length w.printed)
            ∙ ap (λ (y : ℕ). y % 2 ^ 64) (sym (length-append p w.printed));
      }

-- before the first read
pub reached_none : (s : Sent) → s.bytes ≡ 0 → Reached [] start_trial start_lent 0 s []
unfolding run_of run_lines cut
reached_none s e =
    record {
      lines = [];
      left = [];
      printed = [];
      pieces = refl;
      run = refl;
      stands = inl refl;
      sent = λ _. e;
    }

module _ {input : List ℕ} {t : Trial} {b : Lent} {number : ℕ} {s : Sent} {h : List ℕ} (k : Reached input t b number s h) (ok : IsNone s.failed) where
  -- where the reads stop before the end, the whole lines are sent
  pub sent-whole : s.bytes ≡ length (printed_whole input) % 2 ^ 64
  unfolding printed_whole
  sent-whole =
      let e : k.printed ≡ (run_of k.lines).printed = ap (λ (w : Run). w.printed) k.run in
      let f : ended (lines_of input) ≡ k.lines = ap ended k.pieces ∙ ended-lines k.lines k.left in
      k.sent ok ∙ ap (λ (x : List ℕ). length x % 2 ^ 64) (e ∙ ap (λ (ls : List (List ℕ)). (run_of ls).printed) (sym f))

-- ---- the end of the input
module _ {input : List ℕ} {t : Trial} {b : Lent} {number : ℕ} {s : Sent} {h : List ℕ} (k : Reached input t b number s h) where
  -- nothing is left: the whole lines are all lines
  all_whole : k.left ≡ [] → printed_whole (input ++ []) ≡ printed_of input
  unfolding printed_whole printed_of
  all_whole e =
      let p : lines_of input ≡ k.lines ++ ([] ∷ []) = k.pieces ∙ ap (λ (x : List ℕ). k.lines ++ (x ∷ [])) e in
      let f : ended (lines_of input) ≡ k.lines = ap ended p ∙ ended-lines k.lines [] in
      let g : counted (lines_of input) ≡ k.lines = ap counted p ∙ counted_none k.lines in
      rw append-nil (ap (λ (ls : List (List ℕ)). (run_of ls).printed) (f ∙ sym g))

  -- what is left is the last line
  all_fed : (c : ℕ) (l : List ℕ) → k.left ≡ c ∷ l → printed_whole (input ++ (10 ∷ [])) ≡ printed_of input
  unfolding printed_whole printed_of
  all_fed c l e =
      let p : lines_of input ≡ k.lines ++ ((c ∷ l) ∷ []) = k.pieces ∙ ap (λ (x : List ℕ). k.lines ++ (x ∷ [])) e in
      let f : ended (lines_of (input ++ (10 ∷ []))) ≡ k.lines ++ ((c ∷ l) ∷ []) = ended_feed input k.lines (c ∷ l) p in
      let g : counted (lines_of input) ≡ k.lines ++ ((c ∷ l) ∷ []) = ap counted p ∙ counted-some k.lines c l in
      ap (λ (ls : List (List ℕ)). (run_of ls).printed) (f ∙ sym g)

-- a piece for which bytes stand has none where they are none, and else some
record Begins (p : List ℕ) : Type 0 where
  first : ℕ
  more : List ℕ
  are : p ≡ first ∷ more

begins : (p : List ℕ) → 0 < length p → Begins p
begins [] g = absurd (omega (arith, g))
begins (c ∷ p) g = record { first = c; more = p; are = refl }

left_none : (p : List ℕ) → Stands [] p → p ≡ []
left_none p (inl e) = sym e
left_none p (inr o) = absurd (let e = o.nul in let z : ◌≡◌ {A = ℕ} 0 1 = cc e in omega arith)

left_some : (c : ℕ) (h p : List ℕ) → Stands (c ∷ h) p → Begins p
left_some c h p (inl e) = record { first = c; more = h; are = sym e }
left_some c h p (inr o) = begins p (omega (arith, o.long))

-- the last line is answered and sent as those before it
pub sent_all :
    {input : List ℕ} {t : Trial} {b : Lent} {number : ℕ} {s : Sent} (h : List ℕ) (k : Reached input t b number s h)
    {buf : List ℕ} {n : ℕ} {t' : Trial} {b' : Lent} {buf' : List ℕ} {number' : ℕ} {s' : Sent} {held' : ℕ} →
    Whole t b buf number s n t' b' buf' number' s' held' →
    take n buf ≡ last_line h →
    length buf ≡ 65536 →
    IsNone s'.failed →
    s'.bytes ≡ length (printed_of input) % 2 ^ 64
unfolding last_line
sent_all [] k w e room ok =
    let a = sent-whole (reached_more k [] w e room) ok in
    a ∙ ap (λ (x : List ℕ). length x % 2 ^ 64) (all_whole k (left_none k.left k.stands))
sent_all (c ∷ h) k w e room ok =
    let a = sent-whole (reached_more k (10 ∷ []) w e room) ok in
    let f = left_some c h k.left k.stands in
    a ∙ ap (λ (x : List ℕ). length x % 2 ^ 64) (all_fed k f.first f.more f.are)
