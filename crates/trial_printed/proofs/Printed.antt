-- The bytes that lines print are those of the words of trial_laws, numbered. Assumes nothing.
use Prim.Native.Nat.{ℕ, ◌+◌}
use mathlib.Core.Path.{◌≡◌, sym, ap, ◌∙◌}
use mathlib.Core.List.{List, [], ◌∷◌, ◌++◌, map, append-nil, append_assoc}
use Rattle.trial_parse.specs.Parse.{parse}
use Rattle.trial_print.specs.Line.{line_bytes}
use Rattle.progress.specs.HonestRuns.{start}
use Rattle.trial_core.specs.Trial.{line_step, start_trial, start_lent, trial_keys}
use Rattle.trial_lines.specs.Lines.{Run, next_run, run_lines}
use Rattle.trial_laws.specs.TrialRuns.{trial_words, printed, TrialHonest}
use Rattle.trial_laws.proofs.Trials.{trial_honest}
use Rattle.trial_lines.specs.Lines.{lines_of}
use Rattle.trial_io.specs.Printed.{numbered, line_of, counted, run_of, printed_of}

pub lines-printed : (w : Run) (ls : List (List ℕ)) → (run_lines w ls).printed ≡ w.printed ++ numbered w.number (printed w.trial w.lent (map parse ls))
unfolding run_lines next_run numbered printed
lines-printed w [] = sym (append-nil w.printed)
lines-printed w (l ∷ ls) =
    let r = line_step w.trial w.lent (parse l) in
    lines-printed (next_run w (parse l)) ls
    ∙ append_assoc w.printed (line_bytes (w.number + 1) r.van r.word) (numbered (w.number + 1) (printed r.trial r.lent (map parse ls)))

-- from the start, the bytes are those of the run with a server that follows the rules
pub honest_bytes :
    (ls : List (List ℕ)) →
    (run_lines (record { trial = start_trial; lent = start_lent; number = 0; printed = [] }) ls).printed ≡ numbered 0 (trial_words (start trial_keys) (map parse ls))
unfolding TrialHonest
honest_bytes ls = lines-printed _ ls ∙ ap (numbered 0) (trial_honest (map parse ls))

-- what an input prints is the words of that run for all its lines
pub printed_honest :
    (input : List ℕ) →
    printed_of input ≡ numbered 0 (trial_words (start trial_keys) (map parse (map line_of (counted (lines_of input)))))
unfolding printed_of run_of
printed_honest input = honest_bytes (map line_of (counted (lines_of input)))
