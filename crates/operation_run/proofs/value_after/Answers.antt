use Rattle.operation.specs.Operation.{value}
use borrow.Author.Tests.{eq-eqb, ne_eqb, le-leb, lt-leb}
use Rattle.operation_run.proofs.value_after.Goals as goal

pub returns-then-v-amount-le255 : goal.returns-then-v-amount-le255
unfolding value
returns-then-v-amount-le255 c = simp (c.if-adds.true, le-leb _ _ c.if-v-amount-le255.true)

pub returns-else-v-amount-le255 : goal.returns-else-v-amount-le255
unfolding value
returns-else-v-amount-le255 c = simp (c.if-adds.true, lt-leb _ _ c.if-v-amount-le255.false)

pub returns-then-amount-v : goal.returns-then-amount-v
unfolding value
returns-then-amount-v c = simp (ne_eqb _ _ c.if-adds.false, eq-eqb _ _ c.if-kind-eq2.true, le-leb _ _ c.if-amount-v.true)

pub returns-else-amount-v : goal.returns-else-amount-v
unfolding value
returns-else-amount-v c = simp (ne_eqb _ _ c.if-adds.false, eq-eqb _ _ c.if-kind-eq2.true, lt-leb _ _ c.if-amount-v.false)

pub returns-then-kind : goal.returns-then-kind
unfolding value
returns-then-kind c = simp (ne_eqb _ _ c.if-adds.false, ne_eqb _ _ c.if-kind-eq2.false, c.if-kind.true)

pub returns-else-kind : goal.returns-else-kind
unfolding value
returns-else-kind c = simp (ne_eqb _ _ c.if-adds.false, ne_eqb _ _ c.if-kind-eq2.false, c.if-kind.false)
