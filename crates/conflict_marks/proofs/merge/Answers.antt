use mathlib.Core.Path.{◌≡◌}
use native.Mathlib.Omega.{arith}
use Rattle.conflict_marks.proofs.Stored.{none_joined, one_joined}
use Rattle.conflict_marks.proofs.merge.Goals as goal

pub loop-v-init : goal.loop-v-init
loop-v-init c = none_joined c.requires.1

pub loop-v-preserved : goal.loop-v-preserved
loop-v-preserved c =
    let l = c.loop-v in one_joined l.invariant (omega arith)

pub returns : goal.returns
returns c =
    let l = c.loop-v in
    let e : l.v ≡ 256 = omega arith in rw e at l.invariant
