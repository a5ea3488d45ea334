-- What the program prints for over-long lines. Assumes nothing.
use Prim.Native.Nat.{ℕ, ◌+◌, ◌<◌}
use mathlib.Core.Path.{◌≡◌, refl, sym, ap, ◌∙◌}
use mathlib.Core.List.{List, [], ◌∷◌, ◌++◌, append-nil, append_assoc}
use mathlib.Core.Bool.{true}
use native.Mathlib.Omega.{arith}
use lib.ListN.{get_or}
use borrow.Author.Tests.{ltb-true}
use Rattle.text.specs.Text.{cut}
use Rattle.text.proofs.Laws.{either}
use Rattle.log_lines.specs.Lines.{piece_lines, lines}
use Rattle.meter_log.specs.Reading.{Header}
use Rattle.meter_log_told.specs.declared.Log.{Log}
use Rattle.meter_log_told.specs.declared.Log.TheVariants as L
use Rattle.meter_log_told.specs.declared.LineTold.TheVariants as T
use Rattle.meter_log_told.specs.declared.LogStep.{LogStep}
use Rattle.meter_log_told.specs.Told.{tell_line, tell_long, line_limit, is_long, tell_whole, tell_last}
use Rattle.meter_log_put.specs.Text.{told_bytes}
use Rattle.meter_log_lines.specs.Printed.{run_input, printed_of}
use Rattle.meter_log_printed.proofs.Runs.{run_of, printed, whole_run, last_run, none_run}

-- ---- an over-long line
-- with its line feed or without, no byte of it matters
module _ (g : Log) (p : List ℕ) (e : is_long p ≡ true) where
  pub long-whole : tell_whole g p ≡ tell_long g
  unfolding tell_whole
  long-whole = rw e

  pub long_last : tell_last g p ≡ tell_long g
  unfolding tell_last
  long_last = rw e

long_is : (g : Log) → (tell_long g).told ≡ T.Long
unfolding tell_long
long_is L.Start = refl
long_is (L.Under h) = refl
long_is L.Long = refl

-- an over-long line is told as such wherever it stands
pub long_told : (g : Log) (p : List ℕ) → is_long p ≡ true → ((tell_whole g p).told ≡ T.Long) × ((tell_last g p).told ≡ T.Long)
long_told g p e = (rw (long-whole g p e) (long_is g), rw (long_last g p e) (long_is g))

-- and a later one leaves the first line in force
pub long-later : (h : Header) (p : List ℕ) → is_long p ≡ true → ((tell_whole (L.Under h) p).log ≡ L.Under h) × ((tell_last (L.Under h) p).log ≡ L.Under h)
unfolding tell_long
long-later h p e = (rw (long-whole (L.Under h) p e), rw (long_last (L.Under h) p e))

none_long_lem : is_long [] ≡ true → ⊥
none_long_lem e = let z : line_limit < 0 = ltb-true _ _ e in omega arith

-- ---- under an over-long first line
abbrev long : LogStep
long = record { log = L.Long; told = T.Long }

-- every line is told as an over-long one
whole-under : (p : List ℕ) → tell_whole L.Long p ≡ long
unfolding tell_whole tell_line tell_long
whole-under p = either (is_long p) (λ e. rw e) (λ e. rw e)

last_under : (p : List ℕ) → tell_last L.Long p ≡ long
unfolding tell_last tell_line tell_long
last_under p = either (is_long p) (λ e. rw e) (λ e. rw e)

-- `long` for each line, after n lines
unfoldable pub long_text : ℕ → List (List ℕ) → List ℕ
long_text n [] = []
long_text n (l ∷ ls) = told_bytes (n + 1) T.Long ++ long_text (n + 1) ls

under-long : (ps : List (List ℕ)) (n : ℕ) (P : List ℕ) → (run_input (run_of L.Long n P) ps).printed ≡ P ++ long_text n (piece_lines ps)
unfolding run_input piece_lines long_text
under-long [] n P = sym (append-nil P)
under-long ([] ∷ []) n P = ap printed (none_run (run_of L.Long n P)) ∙ sym (append-nil P)
under-long ((b ∷ l) ∷ []) n P = ap printed (last_run (run_of L.Long n P) b l long (last_under (b ∷ l))) ∙ rw append-nil
under-long (p ∷ q ∷ ps) n P =
    let s = told_bytes (n + 1) T.Long in
    ap printed (whole_run (run_of L.Long n P) p q ps long (whole-under p))
    ∙ under-long (q ∷ ps) (n + 1) (P ++ s)
    ∙ append_assoc P s (long_text (n + 1) (piece_lines (q ∷ ps)))

start-long : (ps : List (List ℕ)) → is_long (get_or ps 0 []) ≡ true → (run_input (run_of L.Start 0 []) ps).printed ≡ long_text 0 (piece_lines ps)
unfolding tell_long piece_lines long_text
start-long [] e = absurd (none_long_lem e)
start-long ([] ∷ []) e = absurd (none_long_lem e)
start-long ((b ∷ l) ∷ []) e = ap printed (last_run (run_of L.Start 0 []) b l long (long_last L.Start (b ∷ l) e)) ∙ rw append-nil
start-long (p ∷ q ∷ ps) e = ap printed (whole_run (run_of L.Start 0 []) p q ps long (long-whole L.Start p e)) ∙ under-long (q ∷ ps) 1 (told_bytes 1 T.Long)

-- where the first line is over-long, the program prints `long` for each line, over-long or not
pub long_first : (t : List ℕ) → is_long (get_or (cut 10 t) 0 []) ≡ true → printed_of t ≡ long_text 0 (lines t)
unfolding printed_of
long_first t e = start-long (cut 10 t) e
