use mathlib.Core.Path.{sym, ◌∙◌}
use Rattle.trial_store.proofs.Laws.{client_low, client_index}
use Rattle.trial_admit.proofs.Laws.{line-full, line-invoke}
use Rattle.trial_admit.proofs.invoke.Goals as goal

pub overflow_sub-i : goal.overflow_sub-i
overflow_sub-i c = (client_low c.args.van c.requires).0

pub invoke-m-requires : goal.invoke-m-requires
invoke-m-requires c = client_index c.args.van c.requires

pub returns-then-full : goal.returns-then-full
returns-then-full c =
    let a = c.args in
    line-full a.t a.van c.requires a.lent.now a.kind a.cell a.amount (sym c.full.ensures ∙ c.if-full.true)

pub returns-else-full : goal.returns-else-full
returns-else-full c =
    let a = c.args in
    c.stored.ensures c.invoke-m.new.lent
    ∙ line-invoke a.t a.van c.requires a.lent.now a.kind a.cell a.amount (sym c.full.ensures ∙ c.if-full.false) c.invoke-m.ensures
