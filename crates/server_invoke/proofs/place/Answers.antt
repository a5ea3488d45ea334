use mathlib.Core.Path.{◌≡◌}
use lib.ListN.{length}
use borrow.Author.Rules.{rules}
use Rattle.message.proofs.Laws.{item_length_lem}
use Rattle.server.specs.Server.{placed_server}
use Rattle.server_invoke.proofs.place.Goals as goal

pub returns : goal.returns
unfolding placed_server
returns c =
    let i = c.args.i in
    let h : length i.tag ≡ 32 = search rules in
    rw (c.write_item.ensures, item_length_lem i h)
