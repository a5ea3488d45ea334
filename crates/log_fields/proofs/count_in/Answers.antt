use borrow.Author.Tests.{not-true, not-false}
use Rattle.log_fields.proofs.Walk.{counted_none, counted_unsound, counted_last, counted_next}
use Rattle.log_fields.proofs.count_in.Goals as goal

pub loop-f-init : goal.loop-f-init
loop-f-init c = counted_none _

pub returns-then-not-f : goal.returns-then-not-f
returns-then-not-f c = counted_unsound c.field_end-f.ensures c.loop-f.invariant (not-true _ c.if-not-f.true)

pub returns-then-f-s : goal.returns-then-f-s
returns-then-f-s c = counted_last c.field_end-f.ensures c.loop-f.invariant (not-false _ c.if-not-f.false) c.if-f-s.true

pub loop-f-preserved : goal.loop-f-preserved
loop-f-preserved c = counted_next c.field_end-f.ensures c.loop-f.invariant (not-false _ c.if-not-f.false) c.if-f-s.false
