-- The whole lines of a buffer, call by call of `answers`. Assumes nothing.
use Prim.Native.Nat.{ℕ, ◌+◌, ◌-◌, ◌%◌, ◌^◌, ◌≤◌, ◌<◌}
use mathlib.Core.Path.{◌≡◌, refl, sym, ap, ◌∙◌}
use mathlib.Core.List.{List, [], ◌∷◌, ◌++◌, append-nil, append_assoc}
use mathlib.Core.Logic.{◌⊎◌, inl, inr}
use native.Mathlib.Omega.{arith}
use lib.ListN.{length, take, drop, length-take, length-append}
use lib.Seq.{length-take-le}
use native.Mathlib.Nat.{mod-eq_of_lt}
use Rattle.output.specs.declared.Sent.{Sent}
use Rattle.output.specs.Sends.{Sends}
use Rattle.output.proofs.Laws.{sends-join}
use Rattle.text.proofs.Parts.{part, part_drop}
use Rattle.trial_words.specs.Words.{Asked}
use Rattle.trial_parse.specs.Parse.{parse}
use Rattle.trial_core.specs.declared.Trial.{Trial}
use Rattle.trial_core.specs.Trial.{Lent}
use Rattle.trial_bytes.specs.Held.{Keeps}
use Rattle.trial_lines.specs.declared.Answered.{Answered}
use Rattle.trial_lines.specs.Lines.{Run, next_run, run_lines, lines_of, Answers}
use Rattle.trial_buffer.specs.Whole.{Whole}

-- lines, and more lines after them
pub run_append : (w : Run) (xs ys : List (List ℕ)) → run_lines w (xs ++ ys) ≡ run_lines (run_lines w xs) ys
unfolding run_lines
run_append w [] ys = refl
run_append w (l ∷ xs) ys = run_append (next_run w (parse l)) xs ys

-- a run with p printed before it
abbrev pub behind : List ℕ → Run → Run
behind p w = record { trial = w.trial; lent = w.lent; number = w.number; printed = p ++ w.printed }

next_behind : (p : List ℕ) (w : Run) (a : Asked) → next_run (behind p w) a ≡ behind p (next_run w a)
unfolding next_run
next_behind p w a = rw append_assoc

pub run_behind : (p : List ℕ) (w : Run) (ls : List (List ℕ)) → run_lines (behind p w) ls ≡ behind p (run_lines w ls)
unfolding run_lines
run_behind p w [] = refl
run_behind p w (l ∷ ls) = ap (λ (x : Run). run_lines x ls) (next_behind p w (parse l)) ∙ run_behind p (next_run w (parse l)) ls

-- the lines before `at` were answered; where the last call used nothing, no whole line is left
pub record Passed (t₀ : Trial) (b₀ : Lent) (s : List ℕ) (n first : ℕ) (before : Sent) (t : Trial) (b : Lent) (number at used : ℕ) (sent : Sent) : Type 0 where
  pub answered : List (List ℕ)
  pub printed : List ℕ
  pub lines : lines_of (take n s) ≡ answered ++ lines_of (part s at n)
  pub run :
      ◌≡◌ {A = Run} (record { trial = t; lent = b; number = number; printed = printed })
      (run_lines (record { trial = t₀; lent = b₀; number = first; printed = [] }) answered)
  pub sends : Sends before (length printed) sent
  pub few : number ≤ first + at
  pub within : at ≤ n
  pub ends : used ≡ 0 → lines_of (part s at n) ≡ part s at n ∷ []

sends_none : (s : Sent) → s.bytes < 2 ^ 64 → Sends s 0 s
sends_none s h =
    let e : s.bytes + 0 ≡ s.bytes = omega arith in
    record { before = λ g. g; counted = λ _. sym (rw e (mod-eq_of_lt h)) }

pub passed_none : (t : Trial) (b : Lent) (s : List ℕ) (n first : ℕ) (before : Sent) → before.bytes < 2 ^ 64 → Passed t b s n first before t b first 0 1 before
unfolding run_lines
passed_none t b s n first before h =
    let e : n - 0 ≡ n = omega arith in
    record {
      answered = [];
      printed = [];
      lines = rw e;
      run = refl;
      sends = sends_none before h;
      few = omega arith;
      within = omega arith;
      ends = λ z. absurd (omega (arith, z));
    }

run_none : (w : Run) (ls : List (List ℕ)) (n : ℕ) → n ≡ 0 → (run_lines w (take n ls)).printed ≡ w.printed
unfolding run_lines
run_none w ls n e = rw e

module _
    {t : Trial} {number : ℕ} {b b' : Lent} {text out out' : List ℕ} {r : Answered} (room : 64 ≤ length out) (same : length out' ≡ length out)
    (a : Answers t number b text out r b' out') where
  abbrev start : Run
  start = record { trial = t; lent = b; number = number; printed = [] }

  nothing_printed : r.used ≡ 0 → r.filled ≡ 0
  nothing_printed z =
      let e : take r.filled out' ≡ [] = ap (λ (w : Run). w.printed) a.run ∙ run_none start (lines_of text) r.count (omega (arith, a.each)) in
      omega (arith, length-take r.filled out', ap length e)

  none_left : r.used ≡ 0 → lines_of (drop r.used text) ≡ drop r.used text ∷ []
  none_left z = elim a.ends [ inl q ↦ q | inr q ↦ absurd (omega (arith, q, nothing_printed z)) ]

pub passed_more :
    {t₀ : Trial} {b₀ : Lent} {s : List ℕ} {n first : ℕ} {before : Sent} {t : Trial} {b : Lent} {number at used : ℕ} {b' : Lent} {out out' : List ℕ} {r : Answered} {sent sent' : Sent} →
    64 ≤ length out →
    length out' ≡ length out →
    Passed t₀ b₀ s n first before t b number at used sent →
    Answers t number b (part s at n) out r b' out' →
    Sends sent (length (take r.filled out')) sent' →
    Passed t₀ b₀ s n first before r.trial b' (number + r.count) (at + r.used) r.used sent'
passed_more {t₀} {b₀} {s} {n} {first} {before} {t} {b} {number} {at} {out' = out'} {r = r} {sent' = sent'} g l k a w =
    let ls = take r.count (lines_of (part s at n)) in
    let p = k.printed in
    let R₀ : Run = record { trial = t₀; lent = b₀; number = first; printed = [] } in
    let R : Run = record { trial = t; lent = b; number = number; printed = [] } in
    let e : drop r.used (part s at n) ≡ part s (at + r.used) n = part_drop s at r.used n in
    let m : length (part s at n) ≤ n - at = omega (arith, length-take (n - at) (drop at s)) in
    let q : behind p R ≡ run_lines R₀ k.answered = rw append-nil k.run in
    let m' : length p + length (take r.filled out') ≡ length (p ++ take r.filled out') = sym (length-append p (take r.filled out')) in
    record {
      answered = k.answered ++ ls;
      printed = p ++ take r.filled out';
      sends = rw m' at (sends-join k.sends w);
      lines =
          k.lines
          ∙ ap (λ (x : List (List ℕ)). k.answered ++ x) (a.lines ∙ ap (λ (x : List ℕ). ls ++ lines_of x) e)
          ∙ sym (append_assoc k.answered ls (lines_of (part s (at + r.used) n)));
      run =
          ap (behind p) a.run
          ∙ sym (run_behind p R ls)
          ∙ ap (λ (x : Run). run_lines x ls) q
          ∙ sym (run_append R₀ k.answered ls);
      few = omega (arith, k.few, a.each);
      within = omega (arith, k.within, a.within, m);
      ends = λ z. rw e at (none_left g l a z);
    }

pub whole :
    {t₀ : Trial} {b₀ : Lent} {s : List ℕ} {n first : ℕ} {before : Sent} {t : Trial} {b : Lent} {number at used held : ℕ} {sent : Sent} {s' : List ℕ} →
    used ≡ 0 →
    Passed t₀ b₀ s n first before t b number at used sent →
    Keeps s s' at (n - at) held →
    Whole t₀ b₀ s first before n t b s' number sent held
whole {s = s} {n = n} {at = at} z p k =
    record {
      answered = p.answered;
      rest = part s at n;
      printed = p.printed;
      lines = p.lines ∙ ap (λ (x : List (List ℕ)). p.answered ++ x) (p.ends z);
      run = p.run;
      sends = p.sends;
      kept = k.held;
      room = k.room;
      few = omega (arith, p.few, p.within, k.few);
    }
