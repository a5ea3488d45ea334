use mathlib.Core.Path.{refl, ◌∙◌}
use native.Mathlib.Omega.{arith}
use borrow.Author.Rules.{rules}
use Rattle.replica.proofs.Stops.{stops_at, stops_some, goes_on}
use Rattle.client_reply_check.specs.ReplyChecks.{items_checks}
use Rattle.client_reply_check.proofs.Laws.{item_goes, item_stops}
use Rattle.client_reply_items.proofs.items_check.Goals as goal

pub loop-k-init : goal.loop-k-init
unfolding items_checks
loop-k-init c = (refl, c.none-table.ensures _)

pub returns-in_err-item_check : goal.returns-in_err-item_check
returns-in_err-item_check c =
    let e = c.item_check.ensures.checks (c.loop-k.invariant.1.each _) in
    let s = c.in_err-item_check.was in
    let g = item_stops _ _ _ c.requires.0 _ _ c.item_of-i.ensures c.loop-k.invariant.0 (stops_some _ _ e _ s) (omega (arith, c.loop-k-test.true)) in
    let w = stops_at _ _ e _ s ∙ g in
    (search (rules, w), search rules)

pub loop-k-preserved : goal.loop-k-preserved
loop-k-preserved c =
    let e = c.item_check.ensures in
    let h = c.loop-k.invariant.1 in
    (item_goes _ _ _ c.requires.0 _ _ c.item_of-i.ensures c.loop-k.invariant.0 (goes_on _ _ (e.checks (h.each _)) _ c.in_ok-item_check.was), e.right h)
