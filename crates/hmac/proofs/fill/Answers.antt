use Rattle.hmac.proofs.Laws.{filled_is}
use Rattle.hmac.proofs.fill.Goals as goal

pub returns : goal.returns
returns c = filled_is c.args.key.now c.requires c.copy_from_slice.ensures.after
