use mathlib.Core.Path.{◌≡◌}
use Rattle.server.specs.Server.{slots_ok}
use Rattle.server_slots.proofs.slots_ok.Given as goal

abbrev pub invariant-loop-k : goal.invariant-loop-k
invariant-loop-k l = l.ok ≡ slots_ok l.s l.k
