use borrow.Author.Rules.{rules}
use Rattle.trial_bytes.proofs.Held.{ends_none, ends_some}
use Rattle.trial_bytes.proofs.end_line.Goals as goal

pub returns-then-held-eq0 : goal.returns-then-held-eq0
returns-then-held-eq0 c = ends_none _ _ (search rules)

pub returns : goal.returns
returns c = ends_some _ _ (search rules) (search rules)
