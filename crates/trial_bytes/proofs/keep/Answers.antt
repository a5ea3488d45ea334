use borrow.Author.Rules.{rules}
use Rattle.trial_bytes.proofs.Held.{keeps_moved}
use Rattle.trial_bytes.proofs.keep.Goals as goal

pub returns : goal.returns
returns c =
    let s = c in
    keeps_moved _ _ _ _ _ _ (search rules) s.to_front.ensures c.over_long.ensures
