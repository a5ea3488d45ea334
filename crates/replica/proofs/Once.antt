-- Document 01's numbers and values fix the outcome: two outcomes that are told alike are one. The halts' numbers are those of the enum.
-- Assumes nothing.
use Prim.Native.Nat.{ℕ, zero, suc, ◌+◌, ◌-◌, ◌≤◌}
use mathlib.Core.Path.{◌≡◌, refl, sym, ap, subst, ◌∙◌}
use mathlib.Core.Bool.{true, cond}
use native.Mathlib.Omega.{arith}
use lib.Dec.{eqb}
use Rattle.replica.specs.Outcome.{Told, opened, invoked, responded, aborted, confirmed, refused, halted, halt_no, is_halt, told}
use Rattle.replica.specs.declared.Refusal.{Refusal}
use Rattle.replica.specs.declared.Refusal.TheVariants as R
use Rattle.replica.specs.declared.Halt.{Halt}
use Rattle.replica.specs.declared.Halt.TheVariants as H
use Rattle.replica.specs.declared.Event.TheVariants as D
use Rattle.replica.specs.declared.Outcome.{Outcome}
use Rattle.replica.specs.declared.Outcome.TheVariants as O
use Rattle.replica.proofs.Laws.{halt_bounds}

abbrev refusal_of : ℕ → Refusal
refusal_of n =
    cond (eqb n 1) R.Number (cond (eqb n 2) R.Keys (cond (eqb n 3) R.HaltMark (cond (eqb n 4) R.Current
    (cond (eqb n 5) R.Forbidden (cond (eqb n 6) R.CountFull (cond (eqb n 7) R.Room R.Range))))))

abbrev halt_of : ℕ → Halt
halt_of n =
    cond (eqb n 20) H.Form (cond (eqb n 21) H.Content (cond (eqb n 22) H.Tag (cond (eqb n 23) H.Chain (cond (eqb n 24) H.Last
    (cond (eqb n 25) H.Seq H.Uncommitted)))))

abbrev outcome_of : Told → Outcome
outcome_of opened = O.Success D.Opened
outcome_of (invoked n) = O.Success (D.Invoked n)
outcome_of (responded p a) = O.Success (D.Responded p a)
outcome_of (aborted p) = O.Success (D.Aborted p)
outcome_of (confirmed p s) = O.Success (D.Confirmed p s)
outcome_of (refused n) = O.Refused (refusal_of n)
outcome_of (halted n) = O.Halted (halt_of n)

back : (o : Outcome) → outcome_of (told o) ≡ o
back (O.Success D.Opened) = refl
back (O.Success (D.Invoked n)) = refl
back (O.Success (D.Responded p a)) = refl
back (O.Success (D.Aborted p)) = refl
back (O.Success (D.Confirmed p s)) = refl
back (O.Refused R.Number) = refl
back (O.Refused R.Keys) = refl
back (O.Refused R.HaltMark) = refl
back (O.Refused R.Current) = refl
back (O.Refused R.Forbidden) = refl
back (O.Refused R.CountFull) = refl
back (O.Refused R.Room) = refl
back (O.Refused R.Range) = refl
back (O.Halted H.Form) = refl
back (O.Halted H.Content) = refl
back (O.Halted H.Tag) = refl
back (O.Halted H.Chain) = refl
back (O.Halted H.Last) = refl
back (O.Halted H.Seq) = refl
back (O.Halted H.Uncommitted) = refl

pub told_once : (o p : Outcome) → told o ≡ told p → o ≡ p
told_once o p e = sym (back o) ∙ ap outcome_of e ∙ back p

-- ---- the numbers of halts
-- each of the enum's is one
pub halt-number : (h : Halt) → is_halt (halt_no h) ≡ true
halt-number H.Form = refl
halt-number H.Content = refl
halt-number H.Tag = refl
halt-number H.Chain = refl
halt-number H.Last = refl
halt-number H.Seq = refl
halt-number H.Uncommitted = refl

from_20 : (k : ℕ) → k ≤ 6 → halt_no (halt_of (20 + k)) ≡ 20 + k
from_20 zero h = refl
from_20 (suc zero) h = refl
from_20 (suc (suc zero)) h = refl
from_20 (suc (suc (suc zero))) h = refl
from_20 (suc (suc (suc (suc zero)))) h = refl
from_20 (suc (suc (suc (suc (suc zero))))) h = refl
from_20 (suc (suc (suc (suc (suc (suc zero)))))) h = refl
from_20 (suc (suc (suc (suc (suc (suc (suc k))))))) h = absurd (omega arith)

-- and there is no other
pub halt-named : (n : ℕ) → is_halt n ≡ true → halt_no (halt_of n) ≡ n
halt-named n e =
    let b = halt_bounds n e in
    let p : 20 + (n - 20) ≡ n = omega (arith, b.0) in
    subst (λ (x : ℕ). halt_no (halt_of x) ≡ x) p (from_20 (n - 20) (omega (arith, b.0, b.1)))
