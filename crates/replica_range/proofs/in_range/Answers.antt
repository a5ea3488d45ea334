use Rattle.replica.specs.Replica.{in_range}
use Rattle.replica_range.proofs.in_range.Goals as goal

pub returns : goal.returns
unfolding in_range
returns c = rw (c.arrays_ok.ensures, c.op_ok.ensures, c.no_current.ensures, c.numbers_ok.ensures)
