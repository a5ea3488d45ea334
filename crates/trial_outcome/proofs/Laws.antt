-- Every event is a success. Assumes nothing.
use mathlib.Core.Path.{◌≡◌, refl}
use mathlib.Core.Bool.{true}
use Rattle.replica.specs.declared.Event.{Event}
use Rattle.replica.specs.declared.Event.TheVariants as D
use Rattle.replica.specs.Outcome.{event_told}
use Rattle.trial_core.specs.Trial.{is_success}

pub event_success : (d : Event) → true ≡ is_success (event_told d)
event_success D.Opened = refl
event_success (D.Invoked n) = refl
event_success (D.Responded p a) = refl
event_success (D.Aborted p) = refl
event_success (D.Confirmed p s) = refl
