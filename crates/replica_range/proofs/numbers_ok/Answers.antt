use Rattle.replica.specs.Replica.{numbers_ok}
use Rattle.replica_range.proofs.numbers_ok.Goals as goal

pub returns : goal.returns
unfolding numbers_ok
returns c = rw c.is_halt.ensures
