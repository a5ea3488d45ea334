use mathlib.Core.Logic.{⊎_elim}
use native.Mathlib.Omega.{arith}
use borrow.Author.Rules.{rules}
use Rattle.client_reply.specs.Reply.{sort_to}
use Rattle.client_reply.proofs.Laws.{sort_own, sort_skip, sort_other}
use Rattle.client_reply.proofs.sort_to.Goals as goal

pub loop-k-init : goal.loop-k-init
unfolding sort_to
loop-k-init c =
    let p = c.empty-others.ensures in
    let q = c.empty-own.ensures in
    (omega (arith, p.1), omega (arith, q.1), rw (p.0, q.0))

pub loop-k-preserved : goal.loop-k-preserved
loop-k-preserved c =
    let l = c.loop-k in
    let v = l.invariant in
    let i = c.item_of-i in
    ⊎_elim
    (λ w. (
      rw w.others-is (omega (arith, v.0)),
      rw w.own-is (omega (arith, v.1, w.push.ensures.1)),
      rw (w.others-is, w.own-is, w.push.ensures.0) (sort_own _ _ _ _ _ _ i.ensures _ _ v.2 w.if-i-r.true (search rules)),
    ))
    (⊎_elim
    (λ w. (
      rw w.others-is (omega (arith, v.0)),
      rw w.own-is (omega (arith, v.1)),
      rw (w.others-is, w.own-is) (sort_skip _ _ _ _ _ _ i.ensures _ _ v.2 w.if-i-r.true (search rules)),
    ))
    (λ w. (
      rw w.others-is (omega (arith, v.0, w.push-else-i-r.ensures.1)),
      rw w.own-is (omega (arith, v.1)),
      rw (w.others-is, w.own-is, w.push-else-i-r.ensures.0) (sort_other _ _ _ _ _ _ i.ensures _ _ v.2 w.if-i-r.false),
    )))
    c.if-i-r.branch-raw
