use Rattle.client_broadcast.specs.Broadcast.{confirmed_replica}
use Rattle.client_broadcast.proofs.Laws.{next_is}
use Rattle.client_confirm.proofs.confirmed_replica.Goals as goal

pub returns : goal.returns
unfolding confirmed_replica
returns c = rw (c.saturating_sub.ensures, c.effect_on.ensures, c.status_shift.ensures, c.chain_shift.ensures, ← next_is _ _ c.requires.1)
