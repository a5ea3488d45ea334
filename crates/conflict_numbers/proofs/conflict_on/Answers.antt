use Rattle.std.proofs.Common.{refl, sym, ◌∙◌}
use Rattle.operation.specs.Operation.{value, value_response}
use Rattle.conflict_numbers.specs.Numbers.{on_cell}
use Rattle.conflict_marks.proofs.Stored.{clash}
use Rattle.conflict_numbers.proofs.Parts.{untouched_own, untouched_other}
use Rattle.conflict_numbers.proofs.conflict_on.Goals as goal

pub returns-then-count-eq0 : goal.returns-then-count-eq0
returns-then-count-eq0 c =
    let a = c.args in (
      (λ e. absurd (clash refl e)),
      λ d. absurd (untouched_own value value_response a.start (on_cell a.cell a.others.now) (on_cell a.cell a.own.now) (sym c.count.ensures.0 ∙ c.if-count-eq0.true) d),
    )

pub returns-then-count-eq0-2 : goal.returns-then-count-eq0-2
returns-then-count-eq0-2 c =
    let a = c.args in (
      (λ e. absurd (clash refl e)),
      λ d. absurd (untouched_other value value_response a.start (on_cell a.cell a.others.now) (on_cell a.cell a.own.now) (sym c.count-2.ensures.0 ∙ c.if-count-eq0-2.true) d),
    )
