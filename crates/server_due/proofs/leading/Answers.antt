use Rattle.std.proofs.Common.{rules, tests}
use Rattle.std.proofs.lemmas.Iterator.{YieldsList-from_slice}
use Rattle.std.proofs.lemmas.Iterator.Search.{position_from_yields_List}
use Rattle.slices.specs.Bytes.{is_zero}
use Rattle.server_due.proofs.Laws.{leading_is}
use Rattle.server_due.proofs.leading.Goals as goal

pub returns : goal.returns
returns c =
    let s = c.args.statuses.now in
    let p = position_from_yields_List is_zero _ _ _ c.position.ensures.ran (YieldsList-from_slice s cc) (λ x b q k. search (rules, tests)) in
    leading_is s c.position.result c.unwrap_or.result p c.unwrap_or.ensures
