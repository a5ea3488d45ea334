use borrow.Author.Rules.{rules}
use Rattle.text_hex.proofs.Pairs.{wrote_more, wrote_all}
use Rattle.text_hex.proofs.hex.Goals as goal

pub loop-x-preserved : goal.loop-x-preserved
loop-x-preserved c =
    let k = c.loop-x in
    let m = wrote_more c.requires k.invariant.2 k.p k.invariant.0 c.loop-x-test.true in
    (search rules, search rules, rw (c.hex_digit.ensures, c.hex_digit-in-loop-x.ensures) m)

pub returns : goal.returns
returns c = (search rules, wrote_all c.requires c.loop-x.invariant.2 c.loop-x-test.false)
