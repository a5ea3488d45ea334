use Prim.Native.Nat.{◌≤◌}
use mathlib.Core.Path.{◌∙◌, sym}
use native.Mathlib.Omega.{arith}
use mir.Facts.{to_z-of_z}
use Rattle.operation.proofs.Signed.{signed_low}
use borrow.Author.Rules.{rules}
use Rattle.operation_run.proofs.Bytes.{plain, less_fits, less_signed}
use Rattle.operation_run.proofs.signed_of.Goals as goal

pub overflow_sub-result : goal.overflow_sub-result
overflow_sub-result c = let h : c.args.b ≤ 255 = search rules in less_fits c.args.b c.if-low.false h

pub returns-then-low : goal.returns-then-low
returns-then-low c = plain c.args.b (omega (arith, c.if-low.true)) ∙ sym (signed_low c.args.b c.if-low.true)

pub returns-else-low : goal.returns-else-low
returns-else-low c =
    let h : c.args.b ≤ 255 = search rules in to_z-of_z (less_fits c.args.b c.if-low.false h) ∙ less_signed c.args.b c.if-low.false h
