-- What is printed for one line (document 01, "Cases").
use Rattle.std.specs.Prelude.{ℕ, ◌+◌, ◌≤◌, ◌≡◌, List, length}
use Rattle.slices.specs.Bytes.{put}
use Rattle.trial_words.specs.Words.{Asked}
use Rattle.trial_print.specs.Line.{line_bytes}
use Rattle.trial_core.specs.declared.Trial.{Trial}
use Rattle.trial_core.specs.Trial.{Lent, line_step}
use Rattle.trial_answer.specs.declared.Line.{Line}

-- a command was answered, as line n, into `out` from `at` on
pub record LineAnswered (t : Trial) (n : ℕ) (b : Lent) (a : Asked) (out : List ℕ) (at : ℕ) (r : Line) (b' : Lent) (out' : List ℕ) : Type 0 where
  pub trial : r.trial ≡ (line_step t b a).trial
  pub lent : b' ≡ (line_step t b a).lent
  pub place : r.filled ≡ at + length (line_bytes n (line_step t b a).van (line_step t b a).word)
  pub bytes : out' ≡ put out at (line_bytes n (line_step t b a).van (line_step t b a).word)
  pub most : r.filled ≤ at + 64
