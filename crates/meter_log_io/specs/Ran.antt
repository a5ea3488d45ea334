-- What the program promises of a whole input, however it comes in parts.
use Rattle.std.specs.Prelude.{ℕ, ◌+◌, ◌-◌, ◌%◌, ◌^◌, ◌<◌, ◌≤◌, ◌≡◌, List, true, false, IsNone, is_none, ◌⊎◌, length, take}
use Rattle.input.specs.declared.Brought.TheVariants as B
use Rattle.input.specs.Reads.{goes_on}
use Rattle.tool.specs.declared.Why.TheVariants as W
use Rattle.tool.specs.Tool.{is_caused}
use Rattle.meter_log_lines.specs.Printed.{printed_of, printed_whole}
use Rattle.meter_log_parts.specs.declared.State.{State}
use Rattle.std.specs.declared.option.Option.{Option}
use Rattle.std.specs.declared.io.Error.{Error}
use Rattle.meter_log_io.specs.declared.InputTold.{InputTold}
use Rattle.tool.specs.declared.Done.{Done}
use Rattle.meter_log_parts.specs.Whole.{held_of, Stands, First, Past}

-- `total` bytes were read: state and what is held are those of an input of as many bytes, all of whose whole lines were told and sent
pub record Reached (w : State) (k : Option ℕ) (buf : List ℕ) (total : ℕ) : Type 0 where
  pub input : List ℕ
  pub counted : length input ≡ total
  -- what stands after its last line feed
  pub left : List ℕ
  pub start : State
  pub first : First start
  pub past : Past start input left w
  pub stands : Stands (is_none k) (take (held_of k) buf) left

-- so it is after the last read, which brought nothing unless a write failed
pub record Stopped (r : InputTold) (buf : List ℕ) : Type 0 where
  pub reached : Reached r.state r.kept buf r.total
  pub room : held_of r.kept < length buf
  pub below : r.total + 1 < 2 ^ 64
  pub last : IsNone r.state.sent.failed → goes_on r.brought ≡ false
  pub limit : r.brought ≡ B.Limit → 2 ^ 64 - 65537 ≤ r.total

-- the input that the reads brought, all of it: as long as they counted
pub record Ran (r : Done) : Type 0 where
  pub input : List ℕ
  pub total : length input ≡ r.total
  -- where it ended, all that it prints was sent
  pub ended : r.why ≡ W.Ended → r.sent ≡ length (printed_of input) % 2 ^ 64
  -- where it may go on, what its whole lines print
  pub stopped : ((e : Option Error) × (r.why ≡ W.ReadFailed e)) ⊎ (r.why ≡ W.Limit) → r.sent ≡ length (printed_whole input) % 2 ^ 64
  -- reading stops by itself only after nearly 2^64 bytes
  pub limit : r.why ≡ W.Limit → 2 ^ 64 - 65537 ≤ length input
  -- what failed has its cause
  pub caused : is_caused r.why ≡ true
