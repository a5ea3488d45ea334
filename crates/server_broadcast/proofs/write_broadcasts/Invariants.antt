use Prim.Native.Nat.{◌*◌}
use mathlib.Core.Path.{◌≡◌}
use mathlib.Core.List.{◌++◌}
use lib.ListN.{length, drop}
use Rattle.server.specs.Server.{broadcasts}
use Rattle.server_broadcast.proofs.write_broadcasts.Given as goal

abbrev pub invariant-loop-k : goal.invariant-loop-k
invariant-loop-k l = record {
  so_far : l.out ≡ broadcasts l.s l.k ++ drop (l.k * 80) l.initial.out;
  same_length : length l.out ≡ length l.initial.out;
}
