use native.Mathlib.Omega.{arith}
use Rattle.client_reply_check.proofs.Laws.{last_goes, last_stops}
use Rattle.client_reply_items.proofs.last_ok.Goals as goal

pub returns-then-n-eq0 : goal.returns-then-n-eq0
returns-then-n-eq0 c = last_stops _ _ _ c.requires.0 (omega (arith, c.if-n-eq0.true))

pub returns : goal.returns
returns c = rw c.same_op.ensures (last_goes _ _ _ c.requires.0 _ (omega (arith, c.if-n-eq0.false)) c.item_of-i.ensures)
