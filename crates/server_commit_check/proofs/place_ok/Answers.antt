use Prim.Native.Nat.{◌<◌}
use mathlib.Core.Bool.{and-false}
use native.Mathlib.Omega.{arith}
use borrow.Author.Tests.{lt-leb}
use Rattle.server.specs.Server.{slot_item, place_ok}
use Rattle.server_commit_check.proofs.place_ok.Goals as goal

pub returns-then-j-lt-MAX_PENDING : goal.returns-then-j-lt-MAX_PENDING
unfolding place_ok slot_item
returns-then-j-lt-MAX_PENDING c = rw (c.same_op.ensures, c.read_item-i.ensures, c.saturating_sub-j.ensures)

pub returns-else-j-lt-MAX_PENDING : goal.returns-else-j-lt-MAX_PENDING
unfolding place_ok
returns-else-j-lt-MAX_PENDING c =
    let a = c.args in
    let l : a.s.now.placed < a.k.seq = omega (arith, c.requires, c.saturating_sub-j.ensures, c.if-j-lt-MAX_PENDING.false) in
    rw (lt-leb _ _ l, and-false)
