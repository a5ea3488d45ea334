use mathlib.Core.Path.{◌∙◌}
use Rattle.trial_store.proofs.Laws.{client_low, client_index}
use Rattle.trial_step.proofs.Laws.{line-deliver}
use Rattle.trial_step.proofs.deliver.Goals as goal

pub overflow_sub-i : goal.overflow_sub-i
overflow_sub-i c = (client_low c.args.van c.requires).0

pub deliver-m-requires : goal.deliver-m-requires
deliver-m-requires c = client_index c.args.van c.requires

pub returns : goal.returns
returns c =
    let a = c.args in
    c.stored.ensures c.deliver-m.new.lent ∙ line-deliver a.t a.van c.requires a.lent.now c.deliver-m.ensures
