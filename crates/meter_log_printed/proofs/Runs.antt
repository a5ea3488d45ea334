-- One line of the program's run over an input. Assumes nothing.
use Prim.Native.Nat.{ℕ}
use mathlib.Core.Path.{◌≡◌, refl, ap, ◌∙◌}
use mathlib.Core.List.{List, [], ◌∷◌}
use Rattle.meter_log_told.specs.declared.Log.{Log}
use Rattle.meter_log_told.specs.declared.LogStep.{LogStep}
use Rattle.meter_log_told.specs.Told.{tell_whole, tell_last}
use Rattle.meter_log_lines.specs.Lines.{Run, advance}
use Rattle.meter_log_lines.specs.Printed.{run_last, run_input}

-- a run, by its log, how many lines there were, and what it printed
abbrev pub run_of : Log → ℕ → List ℕ → Run
run_of g n P = record { log = g; number = n; printed = P }

abbrev pub printed : Run → List ℕ
printed w = w.printed

module _ (w : Run) where
  run_more : (p q : List ℕ) (ps : List (List ℕ)) → run_input w (p ∷ q ∷ ps) ≡ run_input (advance w (tell_whole w.log p)) (q ∷ ps)
  unfolding run_input
  run_more p q ps = refl

  run_one : (b : ℕ) (l : List ℕ) → run_input w ((b ∷ l) ∷ []) ≡ advance w (tell_last w.log (b ∷ l))
  unfolding run_input run_last
  run_one b l = refl

  -- a line with its line feed, by what is told of it
  pub whole_run : (p q : List ℕ) (ps : List (List ℕ)) (s : LogStep) → tell_whole w.log p ≡ s → run_input w (p ∷ q ∷ ps) ≡ run_input (advance w s) (q ∷ ps)
  whole_run p q ps s e = run_more p q ps ∙ ap (λ (x : LogStep). run_input (advance w x) (q ∷ ps)) e

  -- the last one, without
  pub last_run : (b : ℕ) (l : List ℕ) (s : LogStep) → tell_last w.log (b ∷ l) ≡ s → run_input w ((b ∷ l) ∷ []) ≡ advance w s
  last_run b l s e = run_one b l ∙ ap (advance w) e

  -- no bytes after the last line feed are no line
  pub none_run : run_input w ([] ∷ []) ≡ w
  unfolding run_input run_last
  none_run = refl
