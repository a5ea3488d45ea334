-- What check 35 implies. Assumes nothing.
use Prim.Native.Nat.{◌+◌, ◌≤◌}
use mathlib.Core.Path.{◌≡◌}
use mathlib.Core.List.{[], ◌∷◌}
use mathlib.Core.Bool.{true}
use lib.Dec.{leb, eqb}
use borrow.Author.Tests.{leb-true}
use Rattle.checks.proofs.Laws.{every_yes}
use Rattle.operation.specs.Operation.{same_op}
use Rattle.message.specs.declared.Commit.{Commit}
use Rattle.server.specs.declared.Server.{Server}
use Rattle.server.specs.Server.{slot_item, slot_of, place_ok}

-- the commit's sequence number waits
pub place_in : (s : Server) (k : Commit) → place_ok s k ≡ true → (s.passed + 1 ≤ k.seq) × (k.seq ≤ s.placed)
unfolding place_ok
place_in s k e =
    let y =
    (every_yes true
    (leb (s.passed + 1) k.seq
    ∷ leb k.seq s.placed
    ∷ same_op (slot_item s (slot_of s k)).op k.op
    ∷ eqb (slot_item s (slot_of s k)).author k.author
    ∷ [])
    e
    ).1
    in
    (leb-true _ _ y.0, leb-true _ _ y.1.0)
