use Rattle.std.proofs.Common.{◌≡◌, ◌∙◌, refl, sym, ap, get_or, true, false, ◌&&◌}
use Rattle.trial_offer.proofs.Offers.{one_goes, one_stays}
use Rattle.trial_offer.specs.Offers.{unsaid}
use Rattle.trial_core.specs.Trial.{has_place, offer}
use Rattle.trial_offer.proofs.offer_one.Goals as goal
use Rattle.trial_offer.proofs.offer_one.Goals.{else-l-i-via-then-l-i+else-has_place, else-l-i-via-else-l-i}

pub returns-then-has_place : goal.returns-then-has_place
returns-then-has_place c =
    let a = c.args in
    let b = a.lent.now in
    let t : (get_or a.l.refused a.i false && has_place a.s) ≡ true = rw c.if-l-i.true (sym c.has_place.ensures ∙ c.if-has_place.true) in (
      ap unsaid (c.offer-o.ensures ∙ ap (λ x. offer a.s a.l a.i x b.replies) c.invoke_of-m.ensures) ∙ one_goes a.s a.l a.i b.replies b.invokes t,
      refl,
      refl,
    )

pub returns-else-l-i : goal.returns-else-l-i
returns-else-l-i c =
    let a = c.args in
    let t : (get_or a.l.refused a.i false && has_place a.s) ≡ false = elim c.else-l-i.branch [ else-l-i-via-then-l-i+else-has_place w ↦ rw w.if-l-i.true (sym w.has_place.ensures ∙ w.if-has_place.false) | else-l-i-via-else-l-i w ↦ rw w.if-l-i.false ] in
    (one_stays a.s a.l a.i a.lent.now.replies a.lent.now.invokes t, refl, refl)
