use mathlib.Core.Path.{sym, ap, ◌∙◌}
use native.Mathlib.Omega.{arith}
use Rattle.checks.proofs.Asked.{asked_yes}
use Rattle.message.proofs.Laws.{broadcast-length}
use Rattle.client_broadcast.proofs.Laws.{commit_allowed}
use Rattle.client_broadcast.proofs.broadcast_check.Goals as goal

pub commit_of-k-requires : goal.commit_of-k-requires
commit_of-k-requires c =
    let y = broadcast-length c.args.m.now (sym c.is_broadcast.ensures ∙ asked_yes _ _ _ _ c.ask.ensures c.in_ok-ask.was) in
    omega (arith, y)

pub commit_tag_ok-requires : goal.commit_tag_ok-requires
commit_tag_ok-requires c =
    let a = commit_allowed _ (sym c.commit_ok.ensures ∙ asked_yes _ _ _ _ c.ask-2.ensures c.in_ok-ask-2.was) in
    (a.low, a.high)
