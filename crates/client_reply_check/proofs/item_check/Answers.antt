use mathlib.Core.Path.{sym, ◌∙◌}
use borrow.Author.Rules.{rules}
use Rattle.checks.proofs.Asked.{asked_yes}
use Rattle.client_reply_check.proofs.Laws.{item_allowed}
use Rattle.client_reply_check.proofs.item_check.Goals as goal

pub returns-in_err-ask-2-clause-checks : goal.returns-in_err-ask-2-clause-checks
returns-in_err-ask-2-clause-checks c h =
    let y = item_allowed _ _ _ (sym c.listed_ok.ensures ∙ asked_yes _ _ _ _ c.ask.ensures c.in_ok-ask.was) in
    let t = c.item_tag_ok.ensures _ (c.state_of-s.ensures.state h y.low y.high).0 in
    search (rules, t)

pub returns-in_err-ask-3-clause-checks : goal.returns-in_err-ask-3-clause-checks
returns-in_err-ask-3-clause-checks c h =
    let y = item_allowed _ _ _ (sym c.listed_ok.ensures ∙ asked_yes _ _ _ _ c.ask.ensures c.in_ok-ask.was) in
    let t = c.item_tag_ok.ensures _ (c.state_of-s.ensures.state h y.low y.high).0 in
    search (rules, t)

pub returns-in_err-ask-4-clause-checks : goal.returns-in_err-ask-4-clause-checks
returns-in_err-ask-4-clause-checks c h =
    let y = item_allowed _ _ _ (sym c.listed_ok.ensures ∙ asked_yes _ _ _ _ c.ask.ensures c.in_ok-ask.was) in
    let t = c.item_tag_ok.ensures _ (c.state_of-s.ensures.state h y.low y.high).0 in
    search (rules, t)

pub returns-clause-checks : goal.returns-clause-checks
returns-clause-checks c h =
    let y = item_allowed _ _ _ (sym c.listed_ok.ensures ∙ asked_yes _ _ _ _ c.ask.ensures c.in_ok-ask.was) in
    let t = c.item_tag_ok.ensures _ (c.state_of-s.ensures.state h y.low y.high).0 in
    search (rules, t)
