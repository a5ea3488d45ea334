use Prim.Native.Nat.{ℕ}
use mathlib.Core.Path.{◌≡◌, sym, ap, ◌∙◌}
use mathlib.Core.Bool.{Bool}
use mathlib.Core.List.{List}
use native.Mathlib.Omega.{arith}
use lib.ListN.{length}
use Rattle.operation.specs.declared.Operation.{Operation}
use Rattle.conflict_marks.specs.Marks.{marks_at}
use Rattle.conflict_marks.proofs.Moved.{Widening, none_widened, one_widened, read_moved}
use Rattle.conflict_marks.proofs.Stored.{laid_blank}
use Rattle.conflict_rows.proofs.widen.Goals as goal

row : {j : ℕ} {e : Operation} {l r : List (List Bool)} → Widening j e l r → length (marks_at l j) ≡ 256 → length (marks_at r j) ≡ 256
row {j} w h = ap length (w.left j (omega arith)) ∙ h

pub returns-then-is_read : goal.returns-then-is_read
returns-then-is_read c = (record { long = c.requires.1; each = λ j h. read_moved (sym c.is_read.ensures ∙ c.if-is_read.true) (c.requires.2 j h) }, c.requires.3)

pub loop-j-init : goal.loop-j-init
loop-j-init c = (c.requires.3, none_widened c.requires.1)

pub lay_out-requires : goal.lay_out-requires
lay_out-requires c = (row c.loop-j.invariant.1 (c.requires.2 c.loop-j.j (omega arith)), c.loop-j.invariant.0)

pub run_into-requires : goal.run_into-requires
run_into-requires c = (c.moved_from-at.ensures.0, row c.loop-j.invariant.1 (c.requires.2 c.loop-j.j (omega arith)))

pub loop-j-preserved : goal.loop-j-preserved
loop-j-preserved c =
    let l = c.loop-j in
    let y = c.lay_out.ensures in
    (laid_blank y, one_widened l.invariant.1 (omega arith) (c.requires.2 l.j (omega arith)) c.moved_from-at.ensures.1 y c.run_into.ensures)

pub returns : goal.returns
returns c =
    (record { long = c.loop-j.invariant.1.long; each = λ j h. c.loop-j.invariant.1.done j (omega arith) }, c.loop-j.invariant.0)
