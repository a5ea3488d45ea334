use borrow.Author.Rules.{rules}
use Rattle.trial_bytes.proofs.Held.{keeps_all, keeps_one}
use Rattle.trial_bytes.proofs.over_long.Goals as goal

pub returns-then-held-buf : goal.returns-then-held-buf
returns-then-held-buf c = keeps_all _ _ (search rules)

pub returns : goal.returns
returns c = keeps_one _ _ (search rules) (search rules)
