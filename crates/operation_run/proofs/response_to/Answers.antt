use Prim.Native.Nat.{◌≤◌}
use mathlib.Core.Path.{◌≡◌, ◌∙◌, ap}
use native.Mathlib.Omega.{arith}
use borrow.Author.Tests.{eq-eqb, ne_eqb}
use lib.IntN.{pos}
use mir.Syntax.{w16}
use mir.Facts.{to_z-of_z}
use borrow.Author.Rules.{rules}
use Rattle.operation.specs.Operation.{response}
use Rattle.operation.proofs.Laws.{value-response_range}
use Rattle.operation_run.proofs.Bytes.{plain}
use Rattle.operation_run.proofs.response_to.Goals as goal

pub overflow_cast-result : goal.overflow_cast-result
overflow_cast-result c =
    let a = c.args in
    let h : a.v ≤ 255 = search rules in
    record { sfits = omega (arith, c.value_response.ensures, value-response_range a.e a.v h) }

pub returns-in-Some-ReadTemp : goal.returns-in-Some-ReadTemp
unfolding response
returns-in-Some-ReadTemp c =
    let k : c.args.e.kind ≡ 6 = grind arith in
    to_z-of_z {w = w16} {z = c.signed_of.result} (record { sfits = c.signed_of.type_inv }) ∙ rw (eq-eqb _ _ k) c.signed_of.ensures

pub returns-in_default : goal.returns-in_default
unfolding response
returns-in_default c =
    let a = c.args in
    let k : a.e.kind ≡ 6 → ⊥ = λ q. grind (arith, q) in
    let h : a.v ≤ 255 = search rules in
    plain c.value_response.result (omega (arith, c.value_response.ensures, value-response_range a.e a.v h)) ∙ rw (ne_eqb _ _ k) (ap pos c.value_response.ensures)
