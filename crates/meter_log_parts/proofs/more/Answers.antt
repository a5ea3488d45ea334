use Rattle.std.proofs.Common.{ap}
use Rattle.std.specs.Prelude.{is_none}
use Rattle.meter_log_parts.specs.Whole.{held_of}
use Rattle.meter_log_parts.proofs.Laws.{came_over, came_held}
use Rattle.meter_log_parts.proofs.more.Goals as goal

pub returns-in-None : goal.returns-in-None
returns-in-None g c = came_over _ _ _ _ (ap is_none c.in-None.is) (ap held_of c.in-None.is) c.tell_over.ensures

pub returns-in-Some : goal.returns-in-Some
returns-in-Some g c = let p = c.requires in let t = c.tell_from.ensures in came_held _ _ _ _ (ap is_none c.in-Some.is) p.0 p.1 t.0 t.1
