-- Bytes handed to writes, counted.
use Rattle.std.specs.Prelude.{◌≡◌, ℕ, ◌+◌, ◌%◌, ◌^◌, IsNone}
use Rattle.output.specs.declared.Sent.{Sent}

-- n bytes were sent after others: where this and all before succeeded, they are counted
pub record Sends (s : Sent) (n : ℕ) (r : Sent) : Type 0 where
  pub before : IsNone r.failed → IsNone s.failed
  pub counted : IsNone r.failed → r.bytes ≡ (s.bytes + n) % 2 ^ 64
