-- A check that goes on has a yes. Assumes nothing.
use mathlib.Core.Path.{◌≡◌, refl, sym, ap, ◌∙◌}
use mathlib.Core.Bool.{Bool, true, false, true≢false}
use Rattle.std.specs.Prelude.{Result, Ok, Err}
use Rattle.checks.specs.Checks.{asked}

abbrev goes : {E : Type 0} → Result Unit E → Bool
goes (Ok u) = true
goes (Err e) = false

pub asked_yes : {E : Type 0} (t : Bool) (e : E) (x : Result Unit E) (u : Unit) → x ≡ asked t e → x ≡ Ok u → t ≡ true
asked_yes true e x u p q = refl
asked_yes false e x u p q = absurd (true≢false (sym (ap goes (sym p ∙ q))))
