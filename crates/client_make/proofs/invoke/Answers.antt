use Prim.Native.Nat.{ℕ, ◌+◌}
use mathlib.Core.Path.{◌≡◌, ap, ◌∙◌}
use native.Mathlib.Omega.{arith}
use Rattle.replica.specs.Outcome.{invoked}
use Rattle.replica.specs.Replica.{stop}
use Rattle.replica.specs.declared.Replica.{Replica}
use Rattle.replica.proofs.Laws.{ranged}
use Rattle.replica.proofs.Stops.{stops_at, stops_some, goes_on}
use Rattle.client_invoke.proofs.Laws.{invoke_yes, invoke-stops, invoke_goes}
use Rattle.client_make.proofs.invoke.Goals as goal

pub returns-in-Err : goal.returns-in-Err
returns-in-Err c =
    let a = c.args in
    let e = c.invoke_check.ensures in
    let l = invoke-stops a.r a.kind a.cell a.amount a.last a.out.now (stops_some _ _ e _ c.in-Err.is) in
    (c.stopped.ensures ∙ ap (stop a.r) (stops_at _ _ e _ c.in-Err.is) ∙ l.0, l.1)

pub overflow_add-e : goal.overflow_add-e
overflow_add-e c =
    let y = invoke_yes _ _ _ _ _ _ (goes_on _ _ c.invoke_check.ensures _ c.in_default.is) in
    record { fits = omega (arith, y.below) }

pub write_own_invoke-requires : goal.write_own_invoke-requires
write_own_invoke-requires c =
    let y = invoke_yes _ _ _ _ _ _ (goes_on _ _ c.invoke_check.ensures _ c.in_default.is) in
    let g = ranged _ y.range in
    (g.low, g.high, y.enough)

pub returns : goal.returns
returns c =
    let a = c.args in
    let l = invoke_goes a.r a.kind a.cell a.amount a.last a.out.now (goes_on _ _ c.invoke_check.ensures _ c.in_default.is) in (
      ap (λ (b : Replica). record { replica = b; says = invoked (a.r.count + 1) }) c.invoked_replica.ensures ∙ l.0,
      c.write_own_invoke.ensures ∙ l.1,
    )
