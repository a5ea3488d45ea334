use Rattle.conflict_marks.proofs.ByKind.{span_add, span_full, span_take, span_short, span_read, span_set}
use borrow.Author.Rules.{rules}
use Rattle.conflict_marks.proofs.same_span.Goals as goal

pub returns-then-v-a-le255 : goal.returns-then-v-a-le255
returns-then-v-a-le255 c = span_add _ _ c.if-e-eq1.true c.if-v-a-le255.true

pub returns-then-e-eq1 : goal.returns-then-e-eq1
returns-then-e-eq1 c = span_full _ _ c.if-e-eq1.true (search rules) c.if-v-a-le255.false

pub returns-then-a-v : goal.returns-then-a-v
returns-then-a-v c = span_take _ _ c.if-e-eq2.true (search rules) c.if-a-v.true

pub returns-then-e-eq2 : goal.returns-then-e-eq2
returns-then-e-eq2 c = span_short _ _ c.if-e-eq2.true (search rules) c.if-a-v.false

pub returns-then-reads : goal.returns-then-reads
returns-then-reads c = span_read _ _ c.if-reads.true (search rules)

pub returns : goal.returns
returns c = span_set _ _ c.if-e-eq1.false c.if-e-eq2.false c.if-reads.false
