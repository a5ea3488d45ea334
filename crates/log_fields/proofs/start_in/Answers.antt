use Rattle.log_fields.proofs.Walk.{towards_none, towards_next, towards_absent, towards_done}
use Rattle.log_fields.proofs.start_in.Goals as goal

pub loop-j-init : goal.loop-j-init
loop-j-init c = towards_none _ _

pub returns-then-f-s : goal.returns-then-f-s
returns-then-f-s c = towards_absent c.loop-j.invariant c.loop-j-test.true c.field_end-f.ensures c.if-f-s.true

pub loop-j-preserved : goal.loop-j-preserved
loop-j-preserved c = towards_next c.loop-j.invariant c.loop-j-test.true c.field_end-f.ensures c.if-f-s.false

pub returns : goal.returns
returns c = towards_done c.loop-j.invariant c.loop-j-test.false
