-- Lines answered one after the other. Assumes nothing.
use Prim.Native.Nat.{ℕ, ◌+◌, ◌-◌, ◌<◌, ◌≤◌}
use mathlib.Core.Path.{◌≡◌, refl, sym, ap, ◌∙◌}
use mathlib.Core.List.{List, [], ◌∷◌, ◌++◌, append_assoc}
use mathlib.Core.Logic.{◌⊎◌}
use native.Mathlib.Omega.{arith}
use lib.ListN.{length, take, drop, length-append}
use lib.Seq.{take-append-add}
use Rattle.text.specs.Text.{place_of}
use Rattle.text.proofs.Cuts.{Cut, cut-start, cut_more}
use Rattle.text.proofs.Filled.{Filled, filled_more}
use Rattle.trial_words.specs.Words.{Asked}
use Rattle.trial_parse.specs.Parse.{parse}
use Rattle.trial_print.specs.Line.{line_bytes}
use Rattle.trial_core.specs.declared.Trial.{Trial}
use Rattle.trial_core.specs.Trial.{Lent, line_step}
use Rattle.trial_answer.specs.declared.Line.{Line}
use Rattle.trial_answer.specs.Answer.{LineAnswered}
use Rattle.trial_lines.specs.Lines.{Run, next_run, run_lines, lines_of, Answers}

pub run_more : (w : Run) (ls : List (List ℕ)) (l : List ℕ) → run_lines w (ls ++ (l ∷ [])) ≡ next_run (run_lines w ls) (parse l)
unfolding run_lines
run_more w [] l = refl
run_more w (m ∷ ls) l = run_more (next_run w (parse m)) ls l

-- one element more of a list
pub take_more : (xs ys ls : List (List ℕ)) (y : List ℕ) (n : ℕ) → xs ≡ ls ++ (y ∷ ys) → length ls ≡ n → take (n + 1) xs ≡ ls ++ (y ∷ [])
take_more xs ys ls y n e h = rw (e, ← h) (take-append-add ls (y ∷ ys) 1)

-- the first `count` lines are answered
pub record So (t₀ : Trial) (n : ℕ) (b₀ : Lent) (text out₀ : List ℕ) (t : Trial) (b : Lent) (out : List ℕ) (count at filled : ℕ) : Type 0 where
  pub cut : Cut 10 text (take count (lines_of text)) at
  pub counted : length (take count (lines_of text)) ≡ count
  pub each : count ≤ at
  pub run :
      ◌≡◌ {A = Run} (record { trial = t; lent = b; number = n + count; printed = take filled out })
      (run_lines (record { trial = t₀; lent = b₀; number = n; printed = [] }) (take count (lines_of text)))
  pub room : filled ≤ length out₀
  pub rest : drop filled out ≡ drop filled out₀
  pub same : length out ≡ length out₀

pub so_none : (t : Trial) (n : ℕ) (b : Lent) (text out : List ℕ) → So t n b text out t b out 0 0 0
unfolding run_lines
so_none t n b text out =
    let e : n + 0 ≡ n = omega arith in
    record {
      cut = cut-start 10 text;
      counted = refl;
      each = omega arith;
      run = rw e;
      room = omega arith;
      rest = refl;
      same = refl;
    }

module _ {t₀ : Trial} {n : ℕ} {b₀ : Lent} {text out₀ : List ℕ} {t : Trial} {b : Lent} {out : List ℕ} {count at filled : ℕ} (w : So t₀ n b₀ text out₀ t b out count at filled) where
  pub so_more :
      (e : ℕ) (a : Asked) (r : Line) (b' : Lent) (out' : List ℕ) →
      e ≡ at + place_of 10 (drop at text) →
      (e ≡ length text → ⊥) →
      filled + 64 ≤ length out₀ →
      a ≡ parse (take (e - at) (drop at text)) →
      LineAnswered t (n + count + 1) b a out filled r b' out' →
      So t₀ n b₀ text out₀ r.trial b' out' (count + 1) (e + 1) r.filled
  unfolding next_run
  so_more e a r b' out' q g h o s' =
      let s = rw o at s' in
      let ls = take count (lines_of text) in
      let l = take (e - at) (drop at text) in
      let S = line_step t b (parse l) in
      let L = line_bytes (n + count + 1) S.van S.word in
      let R : Run = record { trial = t₀; lent = b₀; number = n; printed = [] } in
      let k = cut_more w.cut e q g in
      let ys = lines_of (drop (e + 1) text) in
      let m : take (count + 1) (lines_of text) ≡ ls ++ (l ∷ []) =
      take_more (lines_of text) ys ls l count (k.pieces ∙ append_assoc ls (l ∷ []) ys) w.counted in
      let place : r.filled ≡ filled + length L = s.place in
      let k₀ : Filled out₀ out filled (take filled out) = record { front = refl; rest = w.rest; room = w.room; same = w.same } in
      let f = filled_more k₀ out' L r.filled s.bytes place (omega (arith, s.most)) in
      let p : take r.filled out' ≡ take filled out ++ L = f.front in
      let i : n + (count + 1) ≡ n + count + 1 = omega arith in
      let v : ◌≡◌ {A = Run} (record { trial = r.trial; lent = b'; number = n + (count + 1); printed = take r.filled out' })
      (next_run (record { trial = t; lent = b; number = n + count; printed = take filled out }) (parse l)) = rw (s.trial, s.lent, i, p) in
      record {
        cut = rw m k;
        counted = rw m (omega (arith, length-append ls (l ∷ []), w.counted));
        each = omega (arith, w.each);
        run = v ∙ ap (λ (x : Run). next_run x (parse l)) w.run ∙ sym (run_more R ls l) ∙ ap (run_lines R) (sym m);
        room = f.room;
        rest = f.rest;
        same = f.same;
      }

  pub so_ends :
      (lines_of (drop at text) ≡ drop at text ∷ []) ⊎ (length out₀ < filled + 64) →
      Answers t₀ n b₀ text out₀ (record { trial = t; count = count; used = at; filled = filled }) b out
  so_ends e =
      record {
        lines = w.cut.pieces;
        within = w.cut.within;
        each = w.each;
        run = w.run;
        room = w.room;
        rest = w.rest;
        ends = e;
      }
