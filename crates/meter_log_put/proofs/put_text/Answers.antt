use native.Mathlib.Omega.{arith}
use Rattle.meter_log_put.specs.Text.{told_text}
use Rattle.meter_log_put.proofs.Laws.{told_is}
use Rattle.meter_log_put.proofs.put_text.Goals as goal

pub returns-in-Header : goal.returns-in-Header
unfolding told_text
returns-in-Header c = let f = c.put_bytes in told_is _ _ _ _ _ _ c.in-Header.is f.ensures.0 f.ensures.1 (omega (arith, f.ensures.0))

pub returns-in-Made : goal.returns-in-Made
unfolding told_text
returns-in-Made c = let f = c.put_op in told_is _ _ _ _ _ _ c.in-Made.is f.ensures.0 f.ensures.1 (omega (arith, f.ensures.2))

pub returns-in-Refused : goal.returns-in-Refused
unfolding told_text
returns-in-Refused c = let f = c.put_refused in told_is _ _ _ _ _ _ c.in-Refused.is f.ensures.0 f.ensures.1 (omega (arith, f.ensures.2))

pub returns-in-Long : goal.returns-in-Long
unfolding told_text
returns-in-Long c = let f = c.put_bytes-in-Long in told_is _ _ _ _ _ _ c.in-Long.is f.ensures.0 f.ensures.1 (omega (arith, f.ensures.0))
