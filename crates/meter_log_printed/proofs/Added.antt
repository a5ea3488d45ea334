-- Document 02, Q-5: "A column added at one position in all lines, with another name, sound quoting and no carriage return or line feed,
-- must leave the entries the same." Here of what the program prints. Assumes nothing.
use Prim.Native.Nat.{ℕ}
use mathlib.Core.Path.{◌≡◌, refl, sym, ◌∙◌}
use mathlib.Core.List.{List}
use mathlib.Core.Bool.{true}
use Rattle.text.proofs.Laws.{either}
use Rattle.log_columns.specs.Columns.{header_ok}
use Rattle.meter_log.specs.Reading.{header_of}
use Rattle.meter_log_laws.specs.Added.{add_text, Column}
use Rattle.meter_log_laws.proofs.Column.{Other, Adds, none, more, head_same, all_same}
use Rattle.meter_log_laws.proofs.Log.{lines_added}
use Rattle.meter_log_told.specs.Told.{tell_header}
use Rattle.meter_log_lines.specs.Printed.{printed_of}
use Rattle.meter_log_printed.specs.Readings.{short, lines_text, log_text}
use Rattle.meter_log_printed.proofs.Readings.{printed_read}

-- a first line is told by its check alone
header_told_lem : (h i : List ℕ) → header_ok h ≡ header_ok i → tell_header (header_of h) ≡ tell_header (header_of i)
unfolding header_of tell_header
header_told_lem h i e = rw e (either (header_ok i) (λ x. rw x) (λ x. rw x))

module _ (k : ℕ) {fs : ℕ → List ℕ} (c : Column fs) where
  other : Other (fs 0)
  other = record { field = c.each 0; not_cell = c.not_cell; not_flow = c.not_flow; not_temp = c.not_temp }

  text_added : {ls ms : List (List ℕ)} → Adds k fs ls ms → lines_text ms ≡ lines_text ls
  unfolding lines_text
  text_added none = refl
  text_added (more {l = l} f p n e r) = rw (e, n c.returns, header_told_lem _ l (head_same k other l), all_same k other l r)

-- with the column and without, the log's lines come to the same text
pub log_same : (k : ℕ) (fs : ℕ → List ℕ) → Column fs → (t : List ℕ) → log_text (add_text k fs t) ≡ log_text t
log_same k fs c t = text_added k c (lines_added k c t)

-- and so the program prints the same, for every text, where neither has an over-long line
pub printed_same :
    (k : ℕ) (fs : ℕ → List ℕ) →
    Column fs →
    (t : List ℕ) →
    short t ≡ true →
    short (add_text k fs t) ≡ true →
    printed_of (add_text k fs t) ≡ printed_of t
printed_same k fs c t m n = printed_read (add_text k fs t) n ∙ log_same k fs c t ∙ sym (printed_read t m)
