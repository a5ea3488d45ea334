use Rattle.server_invoke.proofs.Laws.{items_in_lem}
use Rattle.server_invoke.proofs.write_reply.Goals as goal

pub returns : goal.returns
returns c = rw (c.write_items.ensures, items_in_lem c.args.s.now c.args.n)
