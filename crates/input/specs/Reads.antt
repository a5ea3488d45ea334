-- What a read may leave. Which bytes it brings, is said where the reader's bytes are known.
use Rattle.std.specs.Prelude.{ℕ, ◌+◌, ◌-◌, ◌^◌, ◌≤◌, ◌<◌, ◌≡◌, Bool, true, false, List, length, take, drop}
use Rattle.std.specs.declared.option.Option.{Option}
use Rattle.std.specs.Io.KnownBytes.{Consumes, IsAtEnd}
use Rattle.input.specs.declared.Brought.{Brought}
use Rattle.input.specs.declared.Brought.TheVariants as B
use Rattle.input.specs.declared.Input.{Input}

-- only after a read that brought bytes there may be more
unfoldable pub goes_on : Brought → Bool
goes_on B.Some = true
goes_on B.Ended = false
goes_on (B.Failed e) = false
goes_on B.Limit = false

-- a read into a buffer s that held `held` bytes, after `total` bytes were read before
pub record Reads (s s' : List ℕ) (held total : ℕ) (r : Input) : Type 0 where
  -- the bytes held stay, and those that came stand right after them
  pub kept : take held s' ≡ take held s
  pub behind : held ≤ r.count
  pub within : r.count ≤ length s
  pub some : goes_on r.brought ≡ true → held < r.count
  pub none : goes_on r.brought ≡ false → r.count ≡ held
  -- all that came is counted, and the count stays below its limit
  pub counted : r.total + held ≡ total + r.count
  pub below : goes_on r.brought ≡ true → r.total < 2 ^ 64 - 1
  -- "no more may be read" is said where nearly 2^64 bytes were read
  pub limit : r.brought ≡ B.Limit → 2 ^ 64 - 1 ≤ total + length s

-- of a reader whose bytes are known: those that came are the next of them, and where the input ended none is left
abbrev pub Gives : Option (List ℕ) → Option (List ℕ) → ℕ → List ℕ → Input → Type 0
Gives old new held s' r = Consumes old new (take (r.count - held) (drop held s')) × (r.brought ≡ B.Ended → IsAtEnd new)
