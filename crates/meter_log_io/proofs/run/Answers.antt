use native.Mathlib.Omega.{arith}
use borrow.Author.Rules.{rules}
use Rattle.meter_log_io.proofs.InParts.{reached-few}
use Rattle.meter_log_io.proofs.Ran.{ran}
use Rattle.meter_log_io.proofs.run.Goals as goal

pub finish-sent-requires : goal.finish-sent-requires
finish-sent-requires g c = let s = c.tell_input-q.ensures in let f = reached-few s.reached s.room in (omega (arith, s.room), search rules, omega (arith, f, s.below))

pub returns : goal.returns
returns g c = ran c.tell_input-q.ensures c.finish-sent.ensures c.ended_by.ensures
