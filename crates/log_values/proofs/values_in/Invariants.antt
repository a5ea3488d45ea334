use Prim.Native.Nat.{◌-◌}
use lib.ListN.{length}
use Rattle.log_values.proofs.Laws.{Walked}
use Rattle.log_values.proofs.values_in.Given as goal

abbrev pub invariant-loop-c : goal.invariant-loop-c
invariant-loop-c l = Walked l.c l.s l.a l.n l.cell l.flow l.last

abbrev pub decreases-loop-c : goal.decreases-loop-c
decreases-loop-c l = length l.s - l.a
