use Prim.Native.Nat.{◌-◌}
use lib.ListN.{length}
use Rattle.log_fields.proofs.Walk.{Counted}
use Rattle.log_fields.proofs.count_in.Given as goal

abbrev pub invariant-loop-f : goal.invariant-loop-f
invariant-loop-f l = Counted l.s l.a l.n

abbrev pub decreases-loop-f : goal.decreases-loop-f
decreases-loop-f l = length l.s - l.a
