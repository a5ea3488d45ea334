use borrow.Author.Tests.{not-true, not-false}
use Rattle.log_values.proofs.Laws.{walked_none, walked_unsound, walked_last, walked_next}
use Rattle.log_values.proofs.values_in.Goals as goal

pub loop-c-init : goal.loop-c-init
loop-c-init c = walked_none _ _

pub returns-then-not-f : goal.returns-then-not-f
returns-then-not-f c = walked_unsound c.loop-c.invariant c.field_end-f.ensures (not-true _ c.if-not-f.true)

pub returns-then-e-s : goal.returns-then-e-s
returns-then-e-s c = walked_last c.loop-c.invariant c.field_end-f.ensures _ _ _ c.number_at-cell.ensures c.number_at-flow.ensures c.temperature_at-last.ensures (not-false _ c.if-not-f.false) c.if-e-s.true

pub loop-c-preserved : goal.loop-c-preserved
loop-c-preserved c = walked_next c.loop-c.invariant c.field_end-f.ensures _ _ _ c.number_at-cell.ensures c.number_at-flow.ensures c.temperature_at-last.ensures (not-false _ c.if-not-f.false) c.if-e-s.false
