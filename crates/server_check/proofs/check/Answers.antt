use mathlib.Core.Path.{◌≡◌, sym, ap, ◌∙◌}
use mathlib.Core.Bool.{false}
use lib.Dec.{eqb}
use native.Mathlib.Omega.{arith}
use borrow.Author.Rules.{rules}
use Rattle.checks.specs.Checks.{first_no}
use Rattle.message.specs.declared.Item.{Item}
use Rattle.message.specs.declared.Commit.{Commit}
use Rattle.message.proofs.Laws.{invoke_length_lem}
use Rattle.server.specs.Server.{refusal_no, no_of, item_ok, line_checks, placing_checks, commit_checks}
use Rattle.server.proofs.Laws.{ranged, item_author_lem}
use Rattle.server_check.proofs.Laws.{refusal_some, line_yes, invoke_item, commit_long, no_stops, no_invoke, no_commit_lem}
use Rattle.server_check.proofs.check.Goals as goal

pub returns-in_err-line_check : goal.returns-in_err-line_check
returns-in_err-line_check c =
    let a = c.args in
    let n = c.in_err-line_check.ensures in
    let e : eqb (first_no 0 (line_checks a.s.now a.line a.m.now)) 0 ≡ false = rw (sym n) (refusal_some _) in
    let f : no_of c.from_residual.result ≡ refusal_no c.in_err-line_check.field-0.0 = search rules in
    f ∙ n ∙ sym (no_stops a.s.now a.line a.m.now a.room e)

pub read_item-i-requires : goal.read_item-i-requires
read_item-i-requires c = omega (arith, invoke_length_lem c.args.m.now (sym c.is_invoke.ensures ∙ c.if-is_invoke.true))

pub placing_check-requires : goal.placing_check-requires
placing_check-requires c =
    let a = c.args in
    let y = line_yes a.s.now a.line a.m.now (sym c.in_ok-line_check.ensures) in
    let g = ranged a.s.now y.range in
    let h = item_author_lem _ (ap item_ok c.read_item-i.ensures ∙ invoke_item _ (sym c.is_invoke.ensures ∙ c.if-is_invoke.true) y.form) in
    (g.order, g.low, h.0, h.1)

pub commit_of-k-requires : goal.commit_of-k-requires
commit_of-k-requires c =
    let a = c.args in
    let y = line_yes a.s.now a.line a.m.now (sym c.in_ok-line_check.ensures) in
    omega (arith, commit_long a.m.now (sym c.is_invoke.ensures ∙ c.if-is_invoke.false) y.form)

pub commit_check-requires : goal.commit_check-requires
commit_check-requires c =
    let a = c.args in
    let g = ranged a.s.now (line_yes a.s.now a.line a.m.now (sym c.in_ok-line_check.ensures)).range in
    (g.order, g.low, g.few)

pub returns-then-is_invoke : goal.returns-then-is_invoke
returns-then-is_invoke c =
    let a = c.args in
    c.placing_check.ensures
    ∙ ap (λ (x : Item). first_no 0 (placing_checks a.s.now x a.room)) c.read_item-i.ensures
    ∙ sym (no_invoke a.s.now a.line a.m.now a.room (sym c.in_ok-line_check.ensures) (sym c.is_invoke.ensures ∙ c.if-is_invoke.true))

pub returns-else-is_invoke : goal.returns-else-is_invoke
returns-else-is_invoke c =
    let a = c.args in
    c.commit_check.ensures
    ∙ ap (λ (x : Commit). first_no 0 (commit_checks a.s.now x a.room)) c.commit_of-k.ensures
    ∙ sym (no_commit_lem a.s.now a.line a.m.now a.room (sym c.in_ok-line_check.ensures) (sym c.is_invoke.ensures ∙ c.if-is_invoke.false))
