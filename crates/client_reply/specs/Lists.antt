-- Internal: the code's two lists as the definitions have them.
use Rattle.std.specs.Prelude.{ℕ, ◌≤◌, List, take}
use Rattle.operation.specs.declared.Operation.{Operation}
use Rattle.client_reply.specs.declared.Operations.{Operations}
use Rattle.client_reply.specs.declared.Lists.{Lists}
use Rattle.client_reply.specs.Reply.{Sorted}

-- the first n of `all`
abbrev pub firsts : Operations → List Operation
firsts l = take l.n l.all

abbrev pub lists : Lists → Sorted
lists l = record { others = firsts l.others; own = firsts l.own }

-- both of at most k
pub record Full (l : Lists) (k : ℕ) : Type 0 where
  pub others : l.others.n ≤ k
  pub own : l.own.n ≤ k
