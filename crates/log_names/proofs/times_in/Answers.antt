use native.Mathlib.Omega.{arith}
use borrow.Author.Rules.{rules}
use Rattle.log_names.proofs.Walk.{times_last, times_next, hit_most}
use Rattle.log_names.proofs.times_in.Goals as goal

pub loop-a-init : goal.loop-a-init
loop-a-init c = (search rules, search rules, omega arith)

pub overflow_add-n : goal.overflow_add-n
overflow_add-n c = let h = hit_most _ _ _ c.hit-n.ensures in search rules

pub returns-then-e-s : goal.returns-then-e-s
returns-then-e-s c = times_last c.field_end-f.ensures _ _ _ c.if-e-s.true c.hit-n.ensures c.loop-a.invariant.2

pub loop-a-preserved : goal.loop-a-preserved
loop-a-preserved c = let h = hit_most _ _ _ c.hit-n.ensures in (search rules, search rules, times_next c.field_end-f.ensures _ _ _ c.if-e-s.false c.hit-n.ensures c.loop-a.invariant.2)
