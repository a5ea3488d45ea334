use mathlib.Core.Path.{sym}
use native.Mathlib.Omega.{arith}
use Rattle.conflict_marks.proofs.ByKind.{from_add, from_take, from_none, from_other}
use borrow.Author.Rules.{rules}
use Rattle.conflict_marks.proofs.moved_from.Goals as goal

pub returns-then-adds : goal.returns-then-adds
returns-then-adds c = (omega arith, sym (rw c.if-moves.true (from_add c.args.e c.if-adds.true)))

pub returns-then-e-eq2 : goal.returns-then-e-eq2
returns-then-e-eq2 c = (search rules, sym (rw c.if-moves.true (from_take c.args.e c.if-e-eq2.true)))

pub returns-else-e-eq2 : goal.returns-else-e-eq2
returns-else-e-eq2 c = (omega arith, sym (from_other c.args.e c.args.moves c.if-adds.false c.if-e-eq2.false))

pub returns-else-moves : goal.returns-else-moves
returns-else-moves c = (omega arith, sym (rw c.if-moves.false (from_none c.args.e)))
