use mathlib.Core.Bool.{true}
use mathlib.Core.Path.{◌≡◌, refl, subst}
use native.Mathlib.Omega.{arith}
use lib.ListN.{length}
use Rattle.log_quotes.specs.Quotes.{plain, may_end, EndsAt}
use Rattle.log_quotes.proofs.Laws.{way_start, way_end, plain_stop, plain-broken, plain_more}
use Rattle.log_quotes.proofs.plain_end.Goals as goal

pub loop-i-init : goal.loop-i-init
loop-i-init c = way_start plain _ _ c.requires

pub returns-then-s-i-eq44 : goal.returns-then-s-i-eq44
returns-then-s-i-eq44 c = plain_stop c.loop-i.invariant c.loop-i-test.true c.if-s-i-eq44.true

pub returns-then-s-i-eq34 : goal.returns-then-s-i-eq34
returns-then-s-i-eq34 c = plain-broken c.loop-i.invariant c.loop-i-test.true c.if-s-i-eq34.true

pub loop-i-preserved : goal.loop-i-preserved
loop-i-preserved c = plain_more c.loop-i.invariant c.loop-i-test.true c.if-s-i-eq44.false c.if-s-i-eq34.false

pub returns : goal.returns
unfolding may_end
returns c =
    let a = c.args in
    let w = c.loop-i.invariant in
    let e : c.loop-i.i ≡ length a.s.now = omega (arith, w.high, c.loop-i-test.false) in
    subst (λ i. EndsAt plain a.s.now a.a (record { end = i; sound = true })) e (way_end w true c.loop-i-test.false refl)
