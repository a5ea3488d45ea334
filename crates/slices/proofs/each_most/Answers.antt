use Rattle.std.proofs.Common.{leb, sym, ◌∙◌}
use Rattle.slices.proofs.Laws.{all_more, all_done}
use Rattle.slices.proofs.each_most.Goals as goal

pub loop-x-preserved : goal.loop-x-preserved
loop-x-preserved c = c.loop-x.invariant ∙ all_more (λ x. leb x c.args.max) c.args.s.now c.loop-x.x-index c.loop-x.ok c.loop-x-test.true

pub returns : goal.returns
returns c = sym (c.loop-x.invariant ∙ all_done (λ x. leb x c.args.max) _ _ _ c.loop-x-test.false)
