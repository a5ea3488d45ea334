use Prim.Native.Nat.{ℕ, max}
use mathlib.Core.Path.{◌≡◌, refl}
use mathlib.Core.Bool.{Bool, true, false, cond}
use lib.Dec.{ltb}
use native.Mathlib.Omega.{arith}
use borrow.Author.Tests.{ltb-true, ltb-false}
use Rattle.client_reply.specs.Reply.{larger, replied_replica}
use Rattle.client_commit.proofs.replied_replica.Goals as goal

max_larger : (a b : ℕ) → max a b ≡ larger a b
max_larger a b = go (ltb a b) refl
  where
    go : (t : Bool) → ltb a b ≡ t → max a b ≡ cond t b a
    go true e = omega (arith, ltb-true a b e)
    go false e = omega (arith, ltb-false a b e)

pub returns : goal.returns
unfolding replied_replica
returns c = rw (c.held_status.ensures, c.no_op.ensures, c.max.ensures, max_larger)
