use Rattle.std.proofs.Common.{◌&&◌, ◌≡◌, ◌∙◌, eqb}
use Rattle.std.proofs.Math.Bool.{and_assoc}
use Rattle.operation.specs.declared.Operation.{Operation}
use Rattle.operation.specs.Operation.{same_op}
use Rattle.operation.proofs.same_op.Goals as goal

by_fields : (e f : Operation) → (eqb e.count f.count && (eqb e.kind f.kind && (eqb e.cell f.cell && (eqb e.amount f.amount && eqb e.last f.last)))) ≡ same_op e f
unfolding same_op
by_fields e f = simp and_assoc

pub returns : goal.returns
returns c = c.eq.ensures ∙ by_fields c.args.e c.args.f
