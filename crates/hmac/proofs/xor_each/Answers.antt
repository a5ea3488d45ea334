use Rattle.std.proofs.Common.{refl, arith, rules}
use Rattle.hmac.specs.Hmac.{xored}
use Rattle.hmac.proofs.Laws.{xored_more, xored_all}
use Rattle.hmac.proofs.xor_each.Goals as goal

pub loop-y-init : goal.loop-y-init
unfolding xored
loop-y-init c = refl

pub loop-y-preserved : goal.loop-y-preserved
loop-y-preserved c =
    let l = c.loop-y in
    xored_more c.args.x l.y-index c.args.b l.y-items l.invariant (search rules)

pub returns : goal.returns
returns c =
    let l = c.loop-y in
    xored_all c.args.x l.y-index c.args.b l.y-items l.invariant (omega (arith, c.loop-y-test.false, c.loop-y-test.array_long))
