use Prim.Native.Nat.{◌+◌, ◌-◌, ◌≤◌}
use mathlib.Core.Path.{◌≡◌}
use lib.ListN.{length, drop}
use Rattle.log_names.specs.Names.{column}
use Rattle.log_quotes.specs.Quotes.{fields}
use Rattle.log_names.proofs.column_in.Given as goal

abbrev pub invariant-loop-a : goal.invariant-loop-a
invariant-loop-a l = (l.a ≤ length l.s) × (l.k ≤ l.a) × (column l.name (fields l.s) ≡ l.k + column l.name (fields (drop l.a l.s)))

abbrev pub decreases-loop-a : goal.decreases-loop-a
decreases-loop-a l = length l.s - l.a
