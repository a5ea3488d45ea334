-- Lines of input and what is printed for them, line by line (document 01, "Cases").
use Rattle.std.specs.Prelude.{ℕ, ◌+◌, ◌≤◌, ◌<◌, ◌≡◌, List, [], ◌∷◌, ◌++◌, ◌⊎◌, length, take, drop}
use Rattle.text.specs.Text.{cut}
use Rattle.trial_words.specs.Words.{Asked}
use Rattle.trial_parse.specs.Parse.{parse}
use Rattle.trial_print.specs.Line.{line_bytes}
use Rattle.trial_core.specs.declared.Trial.{Trial}
use Rattle.trial_core.specs.Trial.{Lent, line_step}
use Rattle.trial_lines.specs.declared.Answered.{Answered}

-- the program between two lines: the trial, the bytes lent to it, how many lines there were, and what was printed
pub record Run : Type 0 where
  pub trial : Trial
  pub lent : Lent
  pub number : ℕ
  pub printed : List ℕ

-- "one line each: line number, van, word, data"
unfoldable pub next_run : Run → Asked → Run
next_run w a =
    let r = line_step w.trial w.lent a in
    record {
      trial = r.trial;
      lent = r.lent;
      number = w.number + 1;
      printed = w.printed ++ line_bytes (w.number + 1) r.van r.word;
    }

unfoldable pub run_lines : Run → List (List ℕ) → Run
run_lines w [] = w
run_lines w (line ∷ more) = run_lines (next_run w (parse line)) more

-- the lines of a text, without their line feeds (byte 10); after the last line feed stands what is not yet a line
abbrev pub lines_of : List ℕ → List (List ℕ)
lines_of text = cut 10 text

-- the first `count` lines of a text were answered, into the front of `out`
pub record Answers (t : Trial) (n : ℕ) (b : Lent) (text out : List ℕ) (r : Answered) (b' : Lent) (out' : List ℕ) : Type 0 where
  -- `used` is the place after them, and each has at least its line feed
  pub lines : lines_of text ≡ take r.count (lines_of text) ++ lines_of (drop r.used text)
  pub within : r.used ≤ length text
  pub each : r.count ≤ r.used
  -- what is left of the trial, and what is printed, is theirs, in their order
  pub run :
      ◌≡◌ {A = Run} (record { trial = r.trial; lent = b'; number = n + r.count; printed = take r.filled out' })
      (run_lines (record { trial = t; lent = b; number = n; printed = [] }) (take r.count (lines_of text)))
  pub room : r.filled ≤ length out
  pub rest : drop r.filled out' ≡ drop r.filled out
  -- no whole line is left, or less room than a line may need
  pub ends : (lines_of (drop r.used text) ≡ drop r.used text ∷ []) ⊎ (length out < r.filled + 64)
