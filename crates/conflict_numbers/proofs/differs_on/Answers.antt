use mathlib.Core.Path.{refl}
use native.Mathlib.Omega.{arith}
use borrow.Author.Rules.{rules}
use borrow.Author.Count.{below_more}
use Rattle.conflict_marks.proofs.Stored.{clash}
use Rattle.conflict_numbers.proofs.Cells.{by_cells}
use Rattle.conflict_numbers.proofs.differs_on.Goals as goal

pub loop-k-init : goal.loop-k-init
loop-k-init c = λ i h. absurd (omega arith)

pub returns-then-conflict_on : goal.returns-then-conflict_on
returns-then-conflict_on c =
    let a = c.args in
    let l = c.loop-k in
    ((λ e. (by_cells 16 a.numbers a.others.now a.own.now (search rules)).1 (l.k, search rules, c.conflict_on.ensures.0 c.if-conflict_on.true)), λ d. refl)

pub loop-k-preserved : goal.loop-k-preserved
loop-k-preserved c = below_more _ _ c.loop-k.invariant (λ d. clash c.if-conflict_on.false (c.conflict_on.ensures.1 d))

pub returns : goal.returns
returns c =
    let a = c.args in (
      (λ e. absurd (clash refl e)),
      λ d. let (k, h, r) = (by_cells 16 a.numbers a.others.now a.own.now (search rules)).0 d in absurd (c.loop-k.invariant k (omega arith) r),
    )
