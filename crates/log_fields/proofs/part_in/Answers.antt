use Rattle.log_fields.proofs.Walk.{part_found}
use Rattle.log_fields.proofs.part_in.Goals as goal

pub returns : goal.returns
returns c = part_found c.start_in-a.ensures c.field_end-f.ensures
