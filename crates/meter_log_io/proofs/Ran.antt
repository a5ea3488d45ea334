-- What the program's function promises of all its reads together. Assumes nothing.
use Rattle.meter_log_told.specs.Told.{tell_whole}
use Rattle.std.specs.declared.option.Option.{Option}
use Rattle.std.specs.declared.io.Error.{Error}
use Prim.Native.Nat.{ℕ, ◌+◌, ◌%◌, ◌^◌}
use mathlib.Core.Path.{◌≡◌, refl, sym, ap, subst, ◌∙◌}
use mathlib.Core.List.{List, [], ◌∷◌, ◌++◌, append-nil}
use Rattle.std.specs.Prelude.{Some, None, IsNone, is_some, is_none}
use mathlib.Core.Bool.{Bool, true, false, true≢false}
use mathlib.Core.Logic.{inl, inr}
use native.Mathlib.Omega.{arith}
use lib.ListN.{length, take, length-append}
use Rattle.text.specs.Text.{cut}
use Rattle.input.specs.declared.Brought.{Brought}
use Rattle.input.specs.declared.Brought.TheVariants as B
use Rattle.input.specs.Reads.{goes_on}
use Rattle.output.specs.declared.Sent.{Sent}
use Rattle.output.specs.Sends.{Sends}
use Rattle.output.proofs.Laws.{sends-join}
use Rattle.meter_log_lines.specs.Lines.{Run, run_whole, advance}
use Rattle.meter_log_lines.specs.Printed.{run_last, run_input, at_start, printed_of, fed, printed_whole}
use Rattle.meter_log_parts.specs.declared.State.{State}
use Rattle.meter_log_io.specs.declared.InputTold.{InputTold}
use Rattle.tool.specs.declared.Why.{Why}
use Rattle.tool.specs.declared.Why.TheVariants as W
use Rattle.tool.specs.Tool.{why_of, is_caused}
use Rattle.tool.proofs.Laws.{why_caused}
use Rattle.meter_log_parts.specs.Whole.{held_of, run_at, First, Past, LastTold, Finished}
use Rattle.meter_log_io.specs.Ran.{Stopped, Ran}

-- ---- why it ended, by what the last read brought and whether all writes succeeded
other : {A : Type 0} → ◌≡◌ {A = ℕ} 0 1 → A
other e = absurd (omega (arith, e))

why_ended : (b : Brought) (o : Option Error) → why_of b o ≡ W.Ended → IsNone o
unfolding why_of
why_ended b (Some c) e = other (cc e)
why_ended b None e = refl

-- a read that brought bytes is never the last
is_ended : (b : Brought) (o : Option Error) → why_of b o ≡ W.Ended → ((b ≡ B.Ended → ⊥) → goes_on b ≡ false) → b ≡ B.Ended
unfolding why_of goes_on
is_ended b (Some c) e g = other (cc e)
is_ended B.Ended None e g = refl
is_ended (B.Failed c) None e g = other (cc e)
is_ended B.Limit None e g = other (cc e)
is_ended B.Some None e g = absurd (true≢false (g (λ f. other (cc f))))

why_failed : (b : Brought) (o : Option Error) {d : Option Error} → why_of b o ≡ W.ReadFailed d → (b ≡ B.Ended → ⊥) × IsNone o
unfolding why_of
why_failed b (Some c) e = other (cc e)
why_failed B.Ended None e = other (cc e)
why_failed (B.Failed c) None e = ((λ f. other (cc f)), refl)
why_failed B.Limit None e = other (cc e)
why_failed B.Some None e = other (cc e)

is_limit : (b : Brought) (o : Option Error) → why_of b o ≡ W.Limit → (b ≡ B.Limit) × IsNone o
unfolding why_of
is_limit b (Some c) e = other (cc e)
is_limit B.Ended None e = other (cc e)
is_limit (B.Failed c) None e = other (cc e)
is_limit B.Limit None e = (refl, refl)
is_limit B.Some None e = other (cc e)

limit_not_ended : (b : Brought) → b ≡ B.Limit → b ≡ B.Ended → ⊥
limit_not_ended b e f = let z : ◌≡◌ {A = ℕ} 0 1 = cc in omega arith

-- ---- what is printed for an input of which the whole lines were told
fed_all : (ps : List (List ℕ)) (p : List ℕ) → fed (ps ++ (p ∷ [])) ≡ ps
unfolding fed
fed_all [] p = refl
fed_all (q ∷ []) p = refl
fed_all (q ∷ r ∷ ps) p = ap (λ (x : List (List ℕ)). q ∷ x) (fed_all (r ∷ ps) p)

all_last : (w : Run) (ps : List (List ℕ)) (p : List ℕ) → run_input w (ps ++ (p ∷ [])) ≡ run_last (run_whole w ps) p
unfolding run_input run_whole
all_last w [] p = refl
all_last w (q ∷ []) p = refl
all_last w (q ∷ r ∷ ps) p = all_last (advance w (tell_whole w.log q)) (r ∷ ps) p

last_behind : (w : State) (p printed : List ℕ) → printed ++ (run_last (run_at w []) p).printed ≡ (run_last (run_at w printed) p).printed
unfolding run_last
last_behind w [] printed = append-nil printed
last_behind w (b ∷ p) printed = refl

at_start_lem : (w : State) → First w → run_at w [] ≡ at_start
at_start_lem w f = rw (f.log, f.number)

module _ {w₀ : State} {t u : List ℕ} {w : State} (f : First w₀) (y : Past w₀ t u w) where
  run_start : run_at w y.printed ≡ run_whole at_start y.told
  run_start = y.run ∙ ap (λ (x : Run). run_whole x y.told) (at_start_lem w₀ f)

  whole-printed : y.printed ≡ printed_whole t
  unfolding printed_whole
  whole-printed =
      ap (λ (x : Run). x.printed) run_start
      ∙ sym (ap (λ (x : List (List ℕ)). (run_whole at_start x).printed) (ap fed y.pieces ∙ fed_all y.told u))

  all_printed : y.printed ++ (run_last (run_at w []) u).printed ≡ printed_of t
  unfolding printed_of
  all_printed =
      last_behind w u y.printed
      ∙ ap (λ (x : Run). (run_last x u).printed) run_start
      ∙ sym (ap (λ (x : Run). x.printed) (ap (run_input at_start) y.pieces ∙ all_last at_start y.told u))

  -- and what was sent
  counted : {n : ℕ} {r : Sent} → Sends w₀.sent n r → IsNone r.failed → r.bytes ≡ n % 2 ^ 64
  counted {n} {r} s o = let e : w₀.sent.bytes + n ≡ n = omega (arith, f.sent) in s.counted o ∙ ap (λ (x : ℕ). x % 2 ^ 64) e

  pub sent-whole : IsNone w.sent.failed → w.sent.bytes ≡ length (printed_whole t) % 2 ^ 64
  sent-whole o = counted y.sent o ∙ ap (λ (x : List ℕ). length x % 2 ^ 64) whole-printed

  pub sent_all : {r : Sent} → Sends w.sent (length (run_last (run_at w []) u).printed) r → IsNone r.failed → r.bytes ≡ length (printed_of t) % 2 ^ 64
  sent_all s o =
      let l = (run_last (run_at w []) u).printed in
      counted (sends-join y.sent s) o
      ∙ ap (λ (x : ℕ). x % 2 ^ 64) (sym (length-append y.printed l))
      ∙ ap (λ (x : List ℕ). length x % 2 ^ 64) all_printed

-- ---- the program's function
module _
    {q : InputTold} {buf : List ℕ} {sent : Sent} {why : Why} (s : Stopped q buf)
    (f : Finished q.brought q.state (is_none q.kept) (take (held_of q.kept) buf) sent) (e : why ≡ why_of q.brought sent.failed) where
  whole-only : (q.brought ≡ B.Ended → ⊥) × IsNone sent.failed → sent.bytes ≡ length (printed_whole s.reached.input) % 2 ^ 64
  whole-only n =
      let r = s.reached in
      let i : sent ≡ q.state.sent = f.not_yet n.0 in
      ap (λ (x : Sent). x.bytes) i ∙ sent-whole r.first r.past (sym (ap (λ (x : Sent). is_some x.failed) i) ∙ n.1)

  -- while no write failed, only a read that brought nothing was the last
  no_more : IsNone sent.failed → (q.brought ≡ B.Ended → ⊥) → goes_on q.brought ≡ false
  no_more o n = s.last (sym (ap (λ (x : Sent). is_some x.failed) (f.not_yet n)) ∙ o)

  pub ran : Ran (record { total = q.total; sent = sent.bytes; why = why })
  ran =
      let r = s.reached in
      let b = q.brought in
      record {
        input = r.input;
        total = r.counted;
        ended =
            λ h.
            let o = why_ended b sent.failed (sym e ∙ h) in
            let i = is_ended b sent.failed (sym e ∙ h) (no_more o) in
            sent_all r.first r.past ((f.ended i).last r.left r.stands) o;
        stopped =
            λ h.
            elim h [
              | inl g ↦ whole-only (why_failed b sent.failed (sym e ∙ g.1))
              | inr g ↦ let i = is_limit b sent.failed (sym e ∙ g) in whole-only (limit_not_ended b i.0, i.1)
            ];
        limit = λ h. omega (arith, s.limit (is_limit b sent.failed (sym e ∙ h)).0, r.counted);
        caused = ap is_caused e ∙ why_caused b sent.failed;
      }
