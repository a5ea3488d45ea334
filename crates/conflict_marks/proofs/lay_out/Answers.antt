use mathlib.Core.Path.{◌≡◌}
use native.Mathlib.Omega.{arith}
use Rattle.conflict_marks.proofs.Stored.{none_laid, one_laid, all_laid}
use Rattle.conflict_marks.proofs.lay_out.Goals as goal

pub loop-v-init : goal.loop-v-init
loop-v-init c = none_laid c.requires.1

pub loop-v-preserved : goal.loop-v-preserved
loop-v-preserved c =
    let l = c.loop-v in one_laid l.invariant (omega arith)

pub returns : goal.returns
returns c =
    let l = c.loop-v in
    let e : l.v ≡ 256 = omega arith in all_laid c.requires.0 (rw e at l.invariant)
