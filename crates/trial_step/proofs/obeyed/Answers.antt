use mathlib.Core.Path.{sym, ap, ◌∙◌}
use Rattle.trial_step.proofs.Laws.{bad-invoke, bad-deliver, bad_other}
use Rattle.trial_core.specs.Trial.{command_step}
use Rattle.trial_words.specs.Words.{asked}
use Rattle.trial_words.specs.declared.Command.{Command}
use Rattle.trial_step.proofs.obeyed.Goals as goal

pub invoke-requires : goal.invoke-requires
invoke-requires c = sym c.is_client.ensures ∙ c.if-is_client.true

pub deliver-requires : goal.deliver-requires
deliver-requires c = sym c.is_client-in-Deliver.ensures ∙ c.if-is_client-2.true

pub returns-then-is_client : goal.returns-then-is_client
returns-then-is_client c =
    let a = c.args in
    let l = a.lent.now in
    let e = ap (λ (x : Command). command_step a.t l (asked x)) (sym c.in-Invoke.is) in
    c.invoke.ensures ∙ e

pub returns-else-is_client : goal.returns-else-is_client
returns-else-is_client c =
    let a = c.args in
    let l = a.lent.now in
    let e = ap (λ (x : Command). command_step a.t l (asked x)) (sym c.in-Invoke.is) in
    c.bad.ensures l ∙ bad-invoke a.t _ (sym c.is_client.ensures ∙ c.if-is_client.false) l _ _ _ ∙ e

pub returns-then-is_client-2 : goal.returns-then-is_client-2
returns-then-is_client-2 c =
    let a = c.args in
    let l = a.lent.now in
    let e = ap (λ (x : Command). command_step a.t l (asked x)) (sym c.in-Deliver.is) in
    c.deliver.ensures ∙ e

pub returns-else-is_client-2 : goal.returns-else-is_client-2
returns-else-is_client-2 c =
    let a = c.args in
    let l = a.lent.now in
    let e = ap (λ (x : Command). command_step a.t l (asked x)) (sym c.in-Deliver.is) in
    c.bad-else-is_client-2.ensures l ∙ bad-deliver a.t _ (sym c.is_client-in-Deliver.ensures ∙ c.if-is_client-2.false) l ∙ e

pub returns-in-Other : goal.returns-in-Other
returns-in-Other c =
    let a = c.args in
    let l = a.lent.now in
    let e = ap (λ (x : Command). command_step a.t l (asked x)) (sym c.in-Other.is) in
    c.bad-in-Other.ensures l ∙ bad_other a.t l ∙ e
