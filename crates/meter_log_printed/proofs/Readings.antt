-- What the program prints for a log without over-long lines, by the log's readings. Assumes nothing.
use Prim.Native.Nat.{ℕ, ◌+◌}
use mathlib.Core.Path.{◌≡◌, refl, sym, ap, ◌∙◌}
use mathlib.Core.List.{List, [], ◌∷◌, ◌++◌, append-nil, append_assoc}
use mathlib.Core.Bool.{true, false, not}
use borrow.Author.Tests.{not-true}
use Rattle.slices.proofs.Laws.{and_yes}
use Rattle.text.specs.Text.{cut}
use Rattle.log_lines.specs.Lines.{less_return, piece_lines}
use Rattle.meter_log.specs.Reading.{Header, header_of, read_line}
use Rattle.meter_log.specs.Log.{read_all}
use Rattle.meter_log_told.specs.declared.Log.{Log}
use Rattle.meter_log_told.specs.declared.Log.TheVariants as L
use Rattle.meter_log_told.specs.Told.{tell_header, tell_reading, tell_line, is_long, tell_whole, tell_last}
use Rattle.meter_log_put.specs.Text.{told_bytes}
use Rattle.meter_log_lines.specs.Printed.{run_last, run_input, printed_of}
use Rattle.meter_log_printed.specs.Readings.{none_long, short, readings_text, lines_text, log_text}
use Rattle.meter_log_printed.proofs.Runs.{run_of, printed, whole_run}

module _ (p : List ℕ) (ps : List (List ℕ)) (n : none_long (p ∷ ps) ≡ true) where
  short_first : is_long p ≡ false
  unfolding none_long
  short_first = not-true _ (and_yes (not (is_long p)) (none_long ps) n).0

  short_rest : none_long ps ≡ true
  unfolding none_long
  short_rest = (and_yes (not (is_long p)) (none_long ps) n).1

-- ---- a line that is not over-long is told as the line that it is
module _ (g : Log) (p : List ℕ) (e : is_long p ≡ false) where
  whole-line : tell_whole g p ≡ tell_line g (less_return p)
  unfolding tell_whole
  whole-line = rw e

  last_line_lem : tell_last g p ≡ tell_line g p
  unfolding tell_last
  last_line_lem = rw e

-- ---- later lines
module _ (h : Header) where
  -- under a first line, what was printed is followed by a line for each reading of the lines
  pub under_read :
      (ps : List (List ℕ)) (k : ℕ) (P : List ℕ) →
      none_long ps ≡ true →
      (run_input (run_of (L.Under h) k P) ps).printed ≡ P ++ readings_text k (read_all h (piece_lines ps))
  unfolding run_input run_last piece_lines read_all readings_text tell_line
  under_read [] k P n = sym (append-nil P)
  under_read ([] ∷ []) k P n = sym (append-nil P)
  under_read ((b ∷ l) ∷ []) k P n = rw (last_line_lem (L.Under h) (b ∷ l) (short_first (b ∷ l) [] n), append-nil)
  under_read (p ∷ q ∷ ps) k P n =
      let s = told_bytes (k + 1) (tell_reading (read_line h (less_return p))) in
      ap printed (whole_run (run_of (L.Under h) k P) p q ps (tell_line (L.Under h) (less_return p)) (whole-line (L.Under h) p (short_first p (q ∷ ps) n)))
      ∙ under_read (q ∷ ps) (k + 1) (P ++ s) (short_rest p (q ∷ ps) n)
      ∙ append_assoc P s (readings_text (k + 1) (read_all h (piece_lines (q ∷ ps))))

-- ---- and the first
start_read : (ps : List (List ℕ)) → none_long ps ≡ true → (run_input (run_of L.Start 0 []) ps).printed ≡ lines_text (piece_lines ps)
unfolding run_input run_last piece_lines read_all readings_text lines_text tell_line
start_read [] n = refl
start_read ([] ∷ []) n = refl
start_read ((b ∷ l) ∷ []) n = rw (last_line_lem L.Start (b ∷ l) (short_first (b ∷ l) [] n), append-nil)
start_read (p ∷ q ∷ ps) n =
    let i = header_of (less_return p) in
    ap printed (whole_run (run_of L.Start 0 []) p q ps (tell_line L.Start (less_return p)) (whole-line L.Start p (short_first p (q ∷ ps) n)))
    ∙ under_read i (q ∷ ps) 1 (told_bytes 1 (tell_header i)) (short_rest p (q ∷ ps) n)

-- for a text with no over-long line, the program prints a line for the first line and one for each reading of the later ones
pub printed_read : (t : List ℕ) → short t ≡ true → printed_of t ≡ log_text t
unfolding printed_of
printed_read t n = start_read (cut 10 t) n
