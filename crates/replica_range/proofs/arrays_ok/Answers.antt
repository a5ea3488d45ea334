use Rattle.replica.specs.Replica.{arrays_ok}
use Rattle.replica_range.proofs.arrays_ok.Goals as goal

pub returns : goal.returns
unfolding arrays_ok
returns c = rw (c.temps_ok.ensures, c.zero_from-2.ensures, c.zero_from.ensures, c.each_most.ensures)
