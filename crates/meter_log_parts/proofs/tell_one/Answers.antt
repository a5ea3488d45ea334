use Rattle.meter_log_parts.proofs.Laws.{one_more}
use Rattle.meter_log_parts.proofs.tell_one.Goals as goal

pub returns : goal.returns
returns g c = one_more _ _ _ _ _ _ c.requires.0 c.put_told-k.ensures c.send-sent.ensures.sends
