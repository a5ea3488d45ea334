use mathlib.Core.Path.{◌≡◌}
use Rattle.client_reply.specs.Reply.{chain_to}
use Rattle.client_commit.proofs.chain_to.Given as goal

abbrev pub invariant-loop-k : goal.invariant-loop-k
invariant-loop-k l = l.chain ≡ chain_to l.r.confirmed l.r.held l.m l.r.chain l.k
