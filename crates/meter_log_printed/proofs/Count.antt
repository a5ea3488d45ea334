-- The program prints one line for each line of the log. Assumes nothing.
use Prim.Native.Nat.{ℕ, zero, suc, ◌+◌, ◌/◌, ◌%◌}
use mathlib.Core.Path.{◌≡◌, refl, ap, ◌∙◌}
use mathlib.Core.List.{List, [], ◌∷◌, ◌++◌}
use mathlib.Core.Bool.{true, not, cond}
use native.Mathlib.Omega.{arith}
use lib.ListN.{length}
use lib.Dec.{eqb, leb}
use lib.IntN.{ℤ, pos, negsuc}
use borrow.Author.Tests.{ne_eqb}
use Rattle.slices.specs.Bytes.{all}
use Rattle.slices.proofs.Laws.{all_append}
use Rattle.text.specs.Text.{on_first, cut, digits, decimal_of}
use Rattle.text.proofs.Laws.{either}
use Rattle.text_put.specs.Datum.{datum, signed_datum}
use Rattle.operation.specs.declared.Operation.{Operation}
use Rattle.operation.specs.Operation.{signed}
use Rattle.log_lines.specs.Lines.{piece_lines, lines}
use Rattle.meter_log.specs.Reading.{refusal_no}
use Rattle.meter_log_laws.specs.Added.{glue, no_feed}
use Rattle.meter_log_laws.proofs.Put.{Some, some}
use Rattle.meter_log_laws.proofs.Lines.{none, more, pieces-some, cut-glue}
use Rattle.meter_log_told.specs.declared.Log.TheVariants as L
use Rattle.meter_log_told.specs.declared.LineTold.{LineTold}
use Rattle.meter_log_told.specs.declared.LineTold.TheVariants as T
use Rattle.meter_log_told.specs.declared.LogStep.{LogStep}
use Rattle.meter_log_told.specs.Told.{tell_whole, tell_last}
use Rattle.meter_log_put.specs.Text.{op_text, told_text, told_bytes}
use Rattle.meter_log_lines.specs.Lines.{Run, advance}
use Rattle.meter_log_lines.specs.Printed.{run_input, printed_of}
use Rattle.meter_log_printed.proofs.Runs.{run_of, whole_run, last_run, none_run}

-- ---- no line feed in what is told
free_append : (s t : List ℕ) → no_feed s ≡ true → no_feed t ≡ true → no_feed (s ++ t) ≡ true
free_append s t m n = all_append (λ b. not (eqb b 10)) s t m n

digit_free : (n : ℕ) → no_feed ((48 + n % 10) ∷ []) ≡ true
unfolding all
digit_free n = rw (ne_eqb (48 + n % 10) 10 (λ e. omega arith))

digits_free : (k n : ℕ) → no_feed (digits k n) ≡ true
unfolding digits all
digits_free zero n = refl
digits_free (suc k) n =
    free_append (cond (leb n 9) [] (digits k (n / 10))) ((48 + n % 10) ∷ [])
    (either (leb n 9) (λ e. rw e) (λ e. rw e (digits_free k (n / 10))))
    (digit_free n)

decimal_free : (n : ℕ) → no_feed (decimal_of n) ≡ true
unfolding decimal_of
decimal_free n = digits_free (suc n) n

datum_free : (n : ℕ) → no_feed (datum n) ≡ true
unfolding all
datum_free n = decimal_free n

signed_free : (z : ℤ) → no_feed (signed_datum z) ≡ true
unfolding all
signed_free (pos n) = decimal_free n
signed_free (negsuc n) = decimal_free (n + 1)

op_free : (e : Operation) → no_feed (op_text e) ≡ true
unfolding op_text
op_free e =
    let a = free_append (decimal_of e.kind) (datum e.cell) (decimal_free e.kind) (datum_free e.cell) in
    let b = free_append (decimal_of e.kind ++ datum e.cell) (datum e.amount) a (datum_free e.amount) in
    free_append (decimal_of e.kind ++ datum e.cell ++ datum e.amount) (signed_datum (signed e.last)) b (signed_free (signed e.last))

-- bytes that end with a line feed and have no other
pub record Ended (s : List ℕ) : Type 0 where
  pub line : List ℕ
  pub free : no_feed line ≡ true
  pub whole : s ≡ line ++ (10 ∷ [])

text_free : (d : LineTold) → no_feed (told_text d) ≡ true
unfolding told_text all
text_free T.Header = refl
text_free (T.Made e) = op_free e
text_free (T.Refused why) = datum_free (refusal_no why)
text_free T.Long = refl

number_free : (n : ℕ) → no_feed (decimal_of n ++ (32 ∷ [])) ≡ true
unfolding all
number_free n = free_append (decimal_of n) (32 ∷ []) (decimal_free n) refl

-- such is what is printed for a line
pub told_ended : (n : ℕ) (d : LineTold) → Ended (told_bytes n d)
unfolding told_bytes
told_ended n d =
    record { line = decimal_of n ++ (32 ∷ []) ++ told_text d; free = free_append (decimal_of n ++ (32 ∷ [])) (told_text d) (number_free n) (text_free d); whole = refl }

-- ---- pieces counted
count_on : (c : ℕ) (ps : List (List ℕ)) → Some ps → length (on_first c ps) ≡ length ps
unfolding on_first
count_on c [] x = elim x [ ]
count_on c (p ∷ ps) some = refl

count-append : (s t : List ℕ) → length (cut 10 (s ++ t)) + 1 ≡ length (cut 10 s) + length (cut 10 t)
unfolding cut
count-append [] t = omega arith
count-append (c ∷ s) t =
    let i = count-append s t in
    either (eqb c 10)
    (λ e. rw e (omega (arith, i)))
    (λ e. rw (e, count_on c (cut 10 (s ++ t)) (pieces-some (s ++ t)), count_on c (cut 10 s) (pieces-some s)) i)

count-ended : {s : List ℕ} → Ended s → length (cut 10 s) ≡ 2
unfolding glue all
count-ended x = rw (x.whole, cut-glue x.line ([] ∷ []) (more x.free (more refl none)))

count-after : (w : Run) (s : LogStep) → length (cut 10 (advance w s).printed) ≡ length (cut 10 w.printed) + 1
count-after w s = let n = w.number + 1 in omega (arith, count-append w.printed (told_bytes n s.told), count-ended (told_ended n s.told))

count_run : (w : Run) (ps : List (List ℕ)) → length (cut 10 (run_input w ps).printed) ≡ length (cut 10 w.printed) + length (piece_lines ps)
unfolding run_input piece_lines
count_run w [] = omega arith
count_run w ([] ∷ []) = rw (none_run w) (omega arith)
count_run w ((b ∷ l) ∷ []) =
    let s = tell_last w.log (b ∷ l) in
    ap (λ (x : Run). length (cut 10 x.printed)) (last_run w b l s refl) ∙ count-after w s
count_run w (p ∷ q ∷ ps) =
    let s = tell_whole w.log p in
    let i : length (cut 10 (run_input (advance w s) (q ∷ ps)).printed) ≡ length (cut 10 (advance w s).printed) + length (piece_lines (q ∷ ps)) = count_run (advance w s) (q ∷ ps) in
    ap (λ (x : Run). length (cut 10 x.printed)) (whole_run w p q ps s refl) ∙ omega (arith, i, count-after w s)

count_none : length (cut 10 []) ≡ 1
unfolding cut
count_none = refl

-- for every text, over-long lines and all, what is printed has as many line feeds as the text has lines: one more piece than that
pub printed-lines : (t : List ℕ) → length (cut 10 (printed_of t)) ≡ suc (length (lines t))
unfolding printed_of
printed-lines t = omega (arith, count_run (run_of L.Start 0 []) (cut 10 t), count_none)
