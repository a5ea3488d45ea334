use Rattle.std.proofs.Common.{sym, ◌∙◌, take, rules}
use Rattle.conflict_marks.proofs.Stored.{clash}
use Rattle.conflict.proofs.Cells.{alone_by_values, by_values, else_by_temps, clamped}
use Rattle.conflict.proofs.conflict.Goals as goal

pub returns-then-count-eq0 : goal.returns-then-count-eq0
returns-then-count-eq0 c =
    let a = c.args in
    rw (← clamped a.others a.n c.min.result (search rules) c.min.ensures, ← clamped a.own a.m c.min-2.result (search rules) c.min-2.ensures)
    (alone_by_values a.cells (take c.min.result a.others) (take c.min-2.result a.own) (sym c.count.ensures.0 ∙ c.if-count-eq0.true) c.differs_on.ensures)

pub returns-then-parts_differ : goal.returns-then-parts_differ
returns-then-parts_differ c =
    let a = c.args in
    rw (← clamped a.others a.n c.min.result (search rules) c.min.ensures, ← clamped a.own a.m c.min-2.result (search rules) c.min-2.ensures)
    (c.if-parts_differ.true ∙ by_values a.cells (take c.min.result a.others) (take c.min-2.result a.own) (c.parts_differ.ensures.0 c.if-parts_differ.true))

pub returns-else-parts_differ : goal.returns-else-parts_differ
returns-else-parts_differ c =
    let a = c.args in
    rw (← clamped a.others a.n c.min.result (search rules) c.min.ensures, ← clamped a.own a.m c.min-2.result (search rules) c.min-2.ensures)
    (else_by_temps a.cells (take c.min.result a.others) (take c.min-2.result a.own) (λ d. clash c.if-parts_differ.false (c.parts_differ.ensures.1 d)) c.parts_differ-else-parts_differ.ensures)
