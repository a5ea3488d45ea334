-- All that was read of an input, what its lines left, and what was sent.
use Rattle.std.specs.Prelude.{ℕ, ◌+◌, ◌-◌, ◌%◌, ◌^◌, ◌≤◌, ◌<◌, ◌≡◌, Bool, true, false, IsNone, List, [], ◌∷◌, ◌++◌, ◌⊎◌, length, take}
use Rattle.input.specs.declared.Brought.TheVariants as B
use Rattle.input.specs.Reads.{goes_on}
use Rattle.output.specs.declared.Sent.{Sent}
use Rattle.tool.specs.declared.Why.{Why}
use Rattle.tool.specs.declared.Why.TheVariants as W
use Rattle.tool.specs.Tool.{is_caused}
use Rattle.trial_core.specs.declared.Trial.{Trial}
use Rattle.trial_core.specs.Trial.{Lent}
use Rattle.trial_lines.specs.Lines.{Run, lines_of}
use Rattle.trial_io.specs.declared.Reading.{Reading}
use Rattle.std.specs.declared.option.Option.{Option}
use Rattle.std.specs.declared.io.Error.{Error}
use Rattle.tool.specs.declared.Done.{Done}
use Rattle.trial_io.specs.Printed.{run_of, printed_of, printed_whole}

-- bytes h, without a line feed, are held for an over-long line, of which bytes p have come
pub record Over (h p : List ℕ) : Type 0 where
  pub long : 65536 ≤ length p
  pub after : List ℕ
  pub nul : h ≡ 0 ∷ after
  pub one : lines_of h ≡ h ∷ []

-- bytes h are held for a line of which bytes p have come: they are these, or the line is over-long and a NUL byte stands in front
abbrev pub Stands : List ℕ → List ℕ → Type 0
Stands h p = (h ≡ p) ⊎ Over h p

-- after an input, trial, lent bytes and number are those of its whole lines from the start, what is held stands for what is left, and
-- what the lines print was sent, as far as no write failed
pub record Reached (input : List ℕ) (t : Trial) (b : Lent) (number : ℕ) (s : Sent) (h : List ℕ) : Type 0 where
  pub lines : List (List ℕ)
  pub left : List ℕ
  pub printed : List ℕ
  pub pieces : lines_of input ≡ lines ++ (left ∷ [])
  pub run : ◌≡◌ {A = Run} (record { trial = t; lent = b; number = number; printed = printed }) (run_of lines)
  pub stands : Stands h left
  pub sent : IsNone s.failed → s.bytes ≡ length printed % 2 ^ 64

-- some input of as many bytes as were read was reached
pub record ReachedBy (total : ℕ) (t : Trial) (b : Lent) (number : ℕ) (s : Sent) (h : List ℕ) : Type 0 where
  pub input : List ℕ
  pub all : length input ≡ total
  pub reached : Reached input t b number s h

-- after the reads: why they ended, and how far they came
pub record ReadTo (r : Reading) (b : Lent) (buf : List ℕ) : Type 0 where
  pub by : ReachedBy r.total r.after.trial b r.after.number r.after.sent (take r.after.held buf)
  pub room : r.after.held < length buf
  pub few : r.after.number + r.after.held ≤ r.total
  pub below : r.total < 2 ^ 64 - 1
  pub stops : IsNone r.after.sent.failed → goes_on r.brought ≡ false
  pub limit : r.brought ≡ B.Limit → 2 ^ 64 - 65537 ≤ r.total

unfoldable pub at_end : Why → Bool
at_end W.Ended = true
at_end (W.ReadFailed e) = false
at_end (W.WriteFailed e) = false
at_end W.Limit = false

-- the program on an input: all that the reads brought, in their order
pub record Ran (r : Done) : Type 0 where
  pub input : List ℕ
  pub all : length input ≡ r.total
  -- to the end of the input every line was printed; else every line that a line feed ends; where a write failed nothing is known
  pub ended : r.why ≡ W.Ended → r.sent ≡ length (printed_of input) % 2 ^ 64
  pub failed : (e : Option Error) → r.why ≡ W.ReadFailed e → r.sent ≡ length (printed_whole input) % 2 ^ 64
  pub limit : r.why ≡ W.Limit → (r.sent ≡ length (printed_whole input) % 2 ^ 64) × (2 ^ 64 - 65537 ≤ length input)
  -- what failed has its cause
  pub caused : is_caused r.why ≡ true
