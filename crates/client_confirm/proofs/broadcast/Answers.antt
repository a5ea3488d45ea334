use mathlib.Core.Path.{sym, ap, ◌∙◌}
use Rattle.replica.specs.Replica.{stop}
use Rattle.replica.proofs.Stops.{stops_at, stops_some, goes_on}
use Rattle.client_broadcast.proofs.Laws.{broadcast_yes, broadcast-stops, broadcast_goes}
use Rattle.client_confirm.proofs.broadcast.Goals as goal

pub confirmed_replica-requires : goal.confirmed_replica-requires
confirmed_replica-requires c =
    let e = c.broadcast_check.ensures in
    let y = broadcast_yes _ _ (goes_on _ _ e.0 _ c.in-Ok.is) in
    rw (e.1 _ c.in-Ok.is) (y.below, y.digest)

pub returns-in-Ok : goal.returns-in-Ok
returns-in-Ok c =
    let a = c.args in
    let e = c.broadcast_check.ensures in
    rw (c.confirmed_replica.ensures, e.1 _ c.in-Ok.is) (broadcast_goes a.r a.m.now (goes_on _ _ e.0 _ c.in-Ok.is))

pub returns-in-Err : goal.returns-in-Err
returns-in-Err c =
    let e = c.broadcast_check.ensures in
    c.stopped.ensures ∙ ap (stop c.args.r) (stops_at _ _ e.0 _ c.in-Err.is) ∙ broadcast-stops _ _ (stops_some _ _ e.0 _ c.in-Err.is)
