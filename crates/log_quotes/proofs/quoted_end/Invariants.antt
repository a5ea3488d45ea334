use Prim.Native.Nat.{◌-◌}
use lib.ListN.{length}
use Rattle.log_quotes.specs.Quotes.{inside}
use Rattle.log_quotes.proofs.Laws.{Way}
use Rattle.log_quotes.proofs.quoted_end.Given as goal

abbrev pub invariant-loop-a : goal.invariant-loop-a
invariant-loop-a l = Way inside l.s l.a l.i inside

abbrev pub decreases-loop-a : goal.decreases-loop-a
decreases-loop-a l = length l.s - l.i
