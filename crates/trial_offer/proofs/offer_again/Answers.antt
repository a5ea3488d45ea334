use mathlib.Core.Path.{refl, ap, ◌∙◌}
use Rattle.trial_offer.proofs.Offers.{to_none, to_more}
use Rattle.trial_offer.specs.Offers.{offered_one}
use Rattle.trial_offer.proofs.offer_again.Goals as goal

pub loop-i-init : goal.loop-i-init
loop-i-init c = let a = c.args in (to_none a.s a.l a.lent.now.replies a.lent.now.invokes, refl, refl)

pub loop-i-preserved : goal.loop-i-preserved
loop-i-preserved c =
    let a = c.args in
    let o = c.loop-i in
    let q = c.offer_one-after.ensures in
    let b = a.lent.now in (
      q.0 ∙ ap (λ x. offered_one o.after.server o.after.lines o.i o.lent.replies x) o.invariant.2
          ∙ to_more o.i a.s a.l b.replies b.invokes o.after.server o.after.lines o.lent.replies o.invariant.0,
      q.1 ∙ o.invariant.1,
      q.2 ∙ o.invariant.2,
    )
