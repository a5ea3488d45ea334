use Prim.Native.Nat.{◌≤◌}
use mathlib.Core.Path.{◌≡◌}
use Rattle.client_reply.specs.Reply.{sort_to}
use Rattle.client_reply.specs.Lists.{firsts}
use Rattle.client_reply.proofs.sort_to.Given as goal

abbrev pub invariant-loop-k : goal.invariant-loop-k
invariant-loop-k l = (l.others.n ≤ l.k) × (l.own.n ≤ l.k)
    × (record { others = firsts l.others; own = firsts l.own } ≡ sort_to l.r.confirmed l.r.number l.r.statuses l.m l.k)
