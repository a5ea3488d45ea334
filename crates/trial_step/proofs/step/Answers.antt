use mathlib.Core.Path.{◌∙◌}
use Rattle.trial_step.proofs.Laws.{again_line}
use Rattle.trial_words.specs.Words.{asked}
use Rattle.trial_step.proofs.step.Goals as goal

pub returns : goal.returns
returns c =
    let a = c.args in
    let q = c.offered_again-t.ensures in
    c.obeyed.ensures ∙ again_line a.trial a.lent.now (asked a.command) q.0 q.1
