use Rattle.message.specs.Layout.{digest_at}
use Rattle.replica.proofs.value_at.Goals as goal

pub returns : goal.returns
unfolding digest_at
returns c = rw c.part.ensures
