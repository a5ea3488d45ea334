use Rattle.operation.specs.Operation.{value_response}
use borrow.Author.Tests.{eq-eqb, ne_eqb, le-leb, lt-leb}
use Rattle.operation_run.proofs.value_response.Goals as goal

pub returns-then-v-amount-le255 : goal.returns-then-v-amount-le255
unfolding value_response
returns-then-v-amount-le255 c = simp (eq-eqb _ _ c.if-kind-eq1.true, le-leb _ _ c.if-v-amount-le255.true)

pub returns-else-v-amount-le255 : goal.returns-else-v-amount-le255
unfolding value_response
returns-else-v-amount-le255 c = simp (eq-eqb _ _ c.if-kind-eq1.true, lt-leb _ _ c.if-v-amount-le255.false) c.failed_at.ensures

pub returns-then-amount-v : goal.returns-then-amount-v
unfolding value_response
returns-then-amount-v c = simp (ne_eqb _ _ c.if-kind-eq1.false, eq-eqb _ _ c.if-kind-eq2.true, le-leb _ _ c.if-amount-v.true)

pub returns-else-amount-v : goal.returns-else-amount-v
unfolding value_response
returns-else-amount-v c =
    simp (ne_eqb _ _ c.if-kind-eq1.false, eq-eqb _ _ c.if-kind-eq2.true, lt-leb _ _ c.if-amount-v.false) c.failed_at-else-amount-v.ensures

pub returns-then-kind-eq3 : goal.returns-then-kind-eq3
unfolding value_response
returns-then-kind-eq3 c = simp (ne_eqb _ _ c.if-kind-eq1.false, ne_eqb _ _ c.if-kind-eq2.false, eq-eqb _ _ c.if-kind-eq3.true)

pub returns-else-kind-eq3 : goal.returns-else-kind-eq3
unfolding value_response
returns-else-kind-eq3 c = simp (ne_eqb _ _ c.if-kind-eq1.false, ne_eqb _ _ c.if-kind-eq2.false, ne_eqb _ _ c.if-kind-eq3.false)
