use mathlib.Core.Path.{sym, ◌∙◌}
use Rattle.conflict_marks.proofs.Stored.{clash}
use Rattle.conflict_marks.proofs.Moved.{ran_set, ran_none, ran_joined}
use borrow.Author.Rules.{rules}
use Rattle.conflict_rows.proofs.run_into.Goals as goal

pub returns-then-any_marked : goal.returns-then-any_marked
returns-then-any_marked c = ran_set (sym c.is_set.ensures ∙ c.if-is_set.true) c.requires.1 (search rules) (c.any_marked.ensures.0 c.if-any_marked.true)

pub returns-else-any_marked : goal.returns-else-any_marked
returns-else-any_marked c = ran_none (sym c.is_set.ensures ∙ c.if-is_set.true) c.requires.1 (λ w. clash c.if-any_marked.false (c.any_marked.ensures.1 w))

pub returns-else-is_set : goal.returns-else-is_set
returns-else-is_set c = ran_joined (sym c.is_set.ensures ∙ c.if-is_set.false) c.merge.ensures
