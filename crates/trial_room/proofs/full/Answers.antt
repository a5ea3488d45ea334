use Rattle.trial_room.proofs.Laws.{full_none, full_more}
use Rattle.trial_room.proofs.full.Goals as goal

pub loop-n-init : goal.loop-n-init
loop-n-init c = full_none c.args.next.now c.args.passed

pub loop-n-preserved : goal.loop-n-preserved
loop-n-preserved c = full_more c.args.next.now c.args.passed c.loop-n.n-index c.loop-n.invariant
