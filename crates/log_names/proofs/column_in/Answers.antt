use mathlib.Core.Path.{sym, ◌∙◌}
use native.Mathlib.Omega.{arith}
use borrow.Author.Rules.{rules}
use Rattle.log_names.proofs.Walk.{column_found, column_last, column_next}
use Rattle.log_names.proofs.column_in.Goals as goal

pub loop-a-init : goal.loop-a-init
loop-a-init c = (search rules, search rules, omega arith)

pub returns-then-equal : goal.returns-then-equal
returns-then-equal c = column_found c.field_end-f.ensures _ _ (sym c.equal.ensures ∙ c.if-equal.true) c.loop-a.invariant.2

pub returns-then-e-s : goal.returns-then-e-s
returns-then-e-s c = column_last c.field_end-f.ensures _ _ (sym c.equal.ensures ∙ c.if-equal.false) c.if-e-s.true c.loop-a.invariant.2

pub loop-a-preserved : goal.loop-a-preserved
loop-a-preserved c = (search rules, search rules, column_next c.field_end-f.ensures _ _ (sym c.equal.ensures ∙ c.if-equal.false) c.if-e-s.false c.loop-a.invariant.2)
