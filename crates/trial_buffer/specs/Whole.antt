-- The lines of a buffer: those that were answered, what that left, and what is held.
use Rattle.std.specs.Prelude.{ℕ, ◌+◌, ◌≤◌, ◌<◌, ◌≡◌, List, [], ◌∷◌, ◌++◌, length, take}
use Rattle.trial_core.specs.declared.Trial.{Trial}
use Rattle.trial_core.specs.Trial.{Lent}
use Rattle.trial_bytes.specs.Held.{held_of}
use Rattle.output.specs.declared.Sent.{Sent}
use Rattle.output.specs.Sends.{Sends}
use Rattle.trial_lines.specs.Lines.{Run, run_lines, lines_of}

-- of the first n bytes of a buffer s every whole line was answered, the first as line `first` + 1 and the last as line `number`
pub record Whole (t : Trial) (b : Lent) (s : List ℕ) (first : ℕ) (before : Sent) (n : ℕ) (t' : Trial) (b' : Lent) (s' : List ℕ) (number : ℕ) (after : Sent) (held : ℕ) : Type 0 where
  pub answered : List (List ℕ)
  -- what stands after the last line feed
  pub rest : List ℕ
  -- what the lines print, in their order
  pub printed : List ℕ
  pub lines : lines_of (take n s) ≡ answered ++ (rest ∷ [])
  -- trial, lent bytes and number are those of these lines, one after the other
  pub run :
      ◌≡◌ {A = Run} (record { trial = t'; lent = b'; number = number; printed = printed })
      (run_lines (record { trial = t; lent = b; number = first; printed = [] }) answered)
  -- all that was printed was sent
  pub sends : Sends before (length printed) after
  pub kept : take held s' ≡ held_of (length s) rest
  pub room : held < length s
  pub few : number + held ≤ first + n
