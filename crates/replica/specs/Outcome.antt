-- What a call tells: document 01's number and values for each case of the enums.
use Rattle.std.specs.Prelude.{ℕ, Bool, ◌&&◌, leb, Result, Ok, Err}
use Rattle.operation.specs.Operation.{Response}
use Rattle.replica.specs.declared.Refusal.{Refusal}
use Rattle.replica.specs.declared.Refusal.TheVariants as R
use Rattle.replica.specs.declared.Halt.{Halt}
use Rattle.replica.specs.declared.Halt.TheVariants as H
use Rattle.replica.specs.declared.Stop.{Stop}
use Rattle.replica.specs.declared.Stop.TheVariants as S
use Rattle.replica.specs.declared.Event.{Event}
use Rattle.replica.specs.declared.Event.TheVariants as D
use Rattle.replica.specs.declared.Outcome.{Outcome}
use Rattle.replica.specs.declared.Outcome.TheVariants as O

-- "A call's outcome is a success (an answer, "aside" or a confirmation), a refusal or a halt, each with its own data."
pub data Told : Type 0 where
  opened : Told
  invoked : ℕ → Told
  responded : ℕ → Response → Told
  aborted : ℕ → Told
  confirmed : ℕ → ℕ → Told
  refused : ℕ → Told
  halted : ℕ → Told

-- "Numbers below 20 … are refusals"
abbrev pub refusal_no : Refusal → ℕ
refusal_no R.Number = 1
refusal_no R.Keys = 2
refusal_no R.HaltMark = 3
refusal_no R.Current = 4
refusal_no R.Forbidden = 5
refusal_no R.CountFull = 6
refusal_no R.Room = 7
refusal_no R.Range = 8

-- "20 to 25 are halts"; "26 …; it is a halt" (document 02, Q-4)
abbrev pub halt_no : Halt → ℕ
halt_no H.Form = 20
halt_no H.Content = 21
halt_no H.Tag = 22
halt_no H.Chain = 23
halt_no H.Last = 24
halt_no H.Seq = 25
halt_no H.Uncommitted = 26

-- the number of the no that stops a call, and that of checks in order: 0 where none has a no
abbrev pub stop_no : Stop → ℕ
stop_no (S.Refused r) = refusal_no r
stop_no (S.Halted h) = halt_no h

abbrev pub no_of : {A : Type 0} → Result A Stop → ℕ
no_of (Ok a) = 0
no_of (Err s) = stop_no s

-- which numbers are halts: said here alone (proofs/Once.antt: they are those of the enum)
abbrev pub is_halt : ℕ → Bool
is_halt n = leb 20 n && leb n 26

-- "A made entry brings its own count"; "An answer and "aside" bring their place; a confirmation brings place and status."
abbrev pub event_told : Event → Told
event_told D.Opened = opened
event_told (D.Invoked n) = invoked n
event_told (D.Responded p a) = responded p a
event_told (D.Aborted p) = aborted p
event_told (D.Confirmed p s) = confirmed p s

abbrev pub told : Outcome → Told
told (O.Success d) = event_told d
told (O.Refused r) = refused (refusal_no r)
told (O.Halted h) = halted (halt_no h)
