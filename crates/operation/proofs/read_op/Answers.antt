use Rattle.operation.specs.Operation.{op_at}
use Rattle.operation.proofs.read_op.Goals as goal

pub returns : goal.returns
unfolding op_at
returns c = rw c.word_at.ensures
