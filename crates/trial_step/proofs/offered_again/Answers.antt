use mathlib.Core.Path.{sym, ap, ◌∙◌}
use mathlib.Core.List.{List}
use Rattle.trial_core.specs.Moves.{lent_of}
use Rattle.trial_step.proofs.Laws.{again_trial_lem, again_lent_lem}
use Rattle.trial_step.proofs.offered_again.Goals as goal

pub returns : goal.returns
returns c =
    let a = c.args in
    let q = c.offer_again-o in
    let b = a.lent.now in
    let n = q.new.lent in (
      again_trial_lem a.t b q.ensures.0,
      ap (λ x. lent_of x n.replies n.invokes) q.ensures.1 ∙ ap (λ x. lent_of b.log n.replies x) q.ensures.2 ∙ again_lent_lem a.t b q.ensures.0,
    )
