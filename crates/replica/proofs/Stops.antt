-- The numbers of stops: none is 0, and a check's number says whether the call goes on. Assumes nothing.
use Prim.Native.Nat.{ℕ}
use mathlib.Core.Path.{◌≡◌, refl, sym, ap, ◌∙◌}
use mathlib.Core.Bool.{false}
use lib.Dec.{eqb}
use Rattle.std.specs.Prelude.{Result, Ok, Err}
use Rattle.replica.specs.Outcome.{stop_no, no_of}
use Rattle.replica.specs.declared.Refusal.TheVariants as R
use Rattle.replica.specs.declared.Halt.TheVariants as H
use Rattle.replica.specs.declared.Stop.{Stop}
use Rattle.replica.specs.declared.Stop.TheVariants as S

pub stop_some : (s : Stop) → eqb (stop_no s) 0 ≡ false
stop_some (S.Refused R.Number) = refl
stop_some (S.Refused R.Keys) = refl
stop_some (S.Refused R.HaltMark) = refl
stop_some (S.Refused R.Current) = refl
stop_some (S.Refused R.Forbidden) = refl
stop_some (S.Refused R.CountFull) = refl
stop_some (S.Refused R.Room) = refl
stop_some (S.Refused R.Range) = refl
stop_some (S.Halted H.Form) = refl
stop_some (S.Halted H.Content) = refl
stop_some (S.Halted H.Tag) = refl
stop_some (S.Halted H.Chain) = refl
stop_some (S.Halted H.Last) = refl
stop_some (S.Halted H.Seq) = refl
stop_some (S.Halted H.Uncommitted) = refl

module _ {A : Type 0} (x : Result A Stop) (n : ℕ) (e : no_of x ≡ n) where
  -- what stops has that number, which is not 0
  pub stops_at : (s : Stop) → x ≡ Err s → stop_no s ≡ n
  stops_at s f = sym (ap no_of f) ∙ e

  pub stops_some : (s : Stop) → x ≡ Err s → eqb n 0 ≡ false
  stops_some s f = rw (sym (stops_at s f)) (stop_some s)

  -- what goes on has 0
  pub goes_on : (a : A) → x ≡ Ok a → n ≡ 0
  goes_on a f = sym e ∙ ap no_of f
