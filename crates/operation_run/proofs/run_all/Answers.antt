use Rattle.std.proofs.Common.{refl, sym, ◌∙◌, get_or, take}
use Rattle.operation.specs.Operation.{no_op, run_all}
use Rattle.operation.proofs.Laws.{run_more, take_more}
use Rattle.operation_run.proofs.run_all.Goals as goal

pub loop-e-init : goal.loop-e-init
unfolding run_all
loop-e-init c = refl

pub loop-e-preserved : goal.loop-e-preserved
loop-e-preserved c =
    let es = c.args.es.now in
    let k = c.loop-e.e-index in
    c.run_on-after.ensures ∙ rw (c.loop-e.invariant, take_more es k c.loop-e-test.true) (sym (run_more (take k es) (get_or es k no_op) c.args.cells))
