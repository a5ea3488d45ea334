-- An entry of the meters' log: document 02, Q-5.
use Rattle.std.specs.Prelude.{ℕ, Bool, cond, ◌&&◌, leb, Option, Some, None}
use Rattle.operation.specs.declared.Operation.{Operation}

-- "each … in its range": cell 0 to 15, flow 0 to 255; a temperature in its range is a byte
abbrev pub in_ranges : ℕ → ℕ → ℕ → Bool
in_ranges cell flow last = leb cell 15 && leb flow 255 && leb last 255

-- "Each later line becomes one kind 5 entry, its count left to making"
abbrev pub reported : ℕ → ℕ → ℕ → Operation
reported cell flow last = record { count = 0; kind = 5; cell = cell; amount = flow; last = last }

-- the entry with three values, where each is in its range
unfoldable pub entry : ℕ → ℕ → ℕ → Option Operation
entry cell flow last = cond (in_ranges cell flow last) (Some (reported cell flow last)) None
