use mathlib.Core.Path.{◌≡◌}
use Rattle.trial_offer.specs.Offers.{again_offering, offered_to}
use Rattle.trial_offer.proofs.offer_again.Given as goal

abbrev pub invariant-loop-i : goal.invariant-loop-i
invariant-loop-i l =
    (again_offering l.after l.lent.replies ≡ offered_to l.i l.fn.s l.fn.l l.initial.lent.replies l.initial.lent.invokes)
    × (l.lent.log ≡ l.initial.lent.log)
    × (l.lent.invokes ≡ l.initial.lent.invokes)
