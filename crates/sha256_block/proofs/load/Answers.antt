use Rattle.std.proofs.Common.{◌<◌, length, refl, ◌∙◌, add-one, arith, take-suc-set, rules}
use Rattle.sha256_block.specs.Block.{words_at}
use Rattle.sha256_block.proofs.load.Goals as goal

pub loop-n-init : goal.loop-n-init
unfolding words_at
loop-n-init c = (refl, refl)

pub loop-n-preserved : goal.loop-n-preserved
unfolding words_at
loop-n-preserved c =
    let l = c.loop-n in
    let h : l.n < length l.w = omega arith in
    (search rules, rw add-one (take-suc-set l.w l.n c.word_at.result h ∙ rw (c.word_at.ensures, l.invariant.1)))
