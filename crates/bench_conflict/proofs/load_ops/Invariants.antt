use mathlib.Core.Path.{◌≡◌}
use lib.ListN.{length, take}
use Rattle.bench_conflict.specs.Load.{ops_at}
use Rattle.bench_conflict.proofs.load_ops.Given as goal

abbrev pub invariant-loop-i : goal.invariant-loop-i
invariant-loop-i l = (length l.ops ≡ 32) × (take l.i l.ops ≡ ops_at l.s l.i)
