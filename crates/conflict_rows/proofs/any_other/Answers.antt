use Rattle.conflict_marks.proofs.Look.{outside}
use Rattle.conflict_rows.proofs.any_other.Goals as goal

pub returns : goal.returns
returns c =
    let x = c.any_seen-below in
    outside x.result c.any_seen-above.result c.requires c.same_span-same.ensures x.ensures c.any_seen-above.ensures
