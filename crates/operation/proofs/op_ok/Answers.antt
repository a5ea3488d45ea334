use Rattle.operation.specs.Operation.{op_ok}
use Rattle.operation.proofs.op_ok.Goals as goal

pub returns : goal.returns
unfolding op_ok
returns c = rw c.is_allowed.ensures
