use mathlib.Core.Path.{refl, sym, ap, ◌∙◌}
use native.Mathlib.Omega.{arith}
use Rattle.checks.specs.Checks.{also_no}
use Rattle.checks.proofs.Asked.{asked_yes}
use Rattle.checks.proofs.Laws.{also_stays}
use borrow.Author.Rules.{rules}
use Rattle.replica.proofs.Stops.{stops_at, stops_some, goes_on}
use Rattle.client_reply_check.proofs.Laws.{form_yes, form_stops, rest_decides}
use Rattle.client_reply_items.proofs.reply_check.Goals as goal

pub returns-in_err-form_check : goal.returns-in_err-form_check
returns-in_err-form_check c =
    let e = c.form_check.ensures in
    let s = c.in_err-form_check.was in
    let w = stops_at _ _ e _ s ∙ form_stops _ _ _ (stops_some _ _ e _ s) in
    (search (rules, w), search rules)

pub bounds-m-2 : goal.bounds-m-2
bounds-m-2 c = let y = form_yes _ _ _ (goes_on _ _ c.form_check.ensures _ c.in_ok-form_check.was) in omega (arith, y.long)

pub items_check-requires : goal.items_check-requires
items_check-requires c =
    let y = form_yes _ _ _ (goes_on _ _ c.form_check.ensures _ c.in_ok-form_check.was) in
    (refl, y.few, y.early, y.low, y.high, omega (arith, y.long))

pub returns-in_err-own : goal.returns-in_err-own
returns-in_err-own c =
    let a = c.args in
    let e = c.items_check.ensures.0 in
    let s = c.in_err-own.was in
    let f = goes_on _ _ c.form_check.ensures _ c.in_ok-form_check.was in
    let g = rest_decides a.r.now a.m.now a.room f _ _ refl refl in
    let w = stops_at _ _ e _ s ∙ sym (also_stays _ _ (stops_some _ _ e _ s)) ∙ g in
    (search (rules, w), search rules)

pub last_ok-requires : goal.last_ok-requires
last_ok-requires c =
    let y = form_yes _ _ _ (goes_on _ _ c.form_check.ensures _ c.in_ok-form_check.was) in
    (refl, omega (arith, y.long))

pub returns-in_err-ask : goal.returns-in_err-ask
returns-in_err-ask c =
    let a = c.args in
    let f = goes_on _ _ c.form_check.ensures _ c.in_ok-form_check.was in
    let i = goes_on _ _ c.items_check.ensures.0 _ c.in_ok-own.was in
    let g = rest_decides a.r.now a.m.now a.room f 0 c.last_ok.result (sym i) c.last_ok.ensures in
    (search (rules, g), search rules)

pub returns : goal.returns
returns c =
    let a = c.args in
    let f = goes_on _ _ c.form_check.ensures _ c.in_ok-form_check.was in
    let i = goes_on _ _ c.items_check.ensures.0 _ c.in_ok-own.was in
    let g = rest_decides a.r.now a.m.now a.room f 0 c.last_ok.result (sym i) c.last_ok.ensures in
    let t = asked_yes _ _ _ _ c.ask.ensures c.in_ok-ask.was in
    (ap (λ b. also_no 0 (b, 24)) (sym t) ∙ g, λ own h. c.items_check.ensures.1 own (c.in_ok-own.was ∙ h))
