-- What the test of the ranges says. Assumes nothing.
use Prim.Native.Nat.{ℕ, ◌<◌, ◌≤◌}
use mathlib.Core.Path.{◌≡◌}
use mathlib.Core.Bool.{and-false}
use borrow.Author.Tests.{le-leb, lt-leb}
use Rattle.std.specs.Prelude.{Some, None}
use Rattle.log_entry.specs.Entry.{reported, entry}

module _ (cell flow last : ℕ) where
  pub entry_yes : cell ≤ 15 → flow ≤ 255 → last ≤ 255 → entry cell flow last ≡ Some (reported cell flow last)
  unfolding entry
  entry_yes h k l = rw (le-leb cell 15 h, le-leb flow 255 k, le-leb last 255 l)

  pub entry_cell : 15 < cell → entry cell flow last ≡ None
  unfolding entry
  entry_cell h = rw (lt-leb cell 15 h)

  pub entry_flow : 255 < flow → entry cell flow last ≡ None
  unfolding entry
  entry_flow h = rw (lt-leb flow 255 h, and-false)

  pub entry_last : 255 < last → entry cell flow last ≡ None
  unfolding entry
  entry_last h = rw (lt-leb last 255 h, and-false)

-- whether the values are in their ranges
pub ruleset entry_steps = (entry_yes, entry_cell, entry_flow)
