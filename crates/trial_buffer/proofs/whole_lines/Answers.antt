use Prim.Native.Nat.{◌-◌, ◌≤◌}
use native.Mathlib.Omega.{arith}
use borrow.Author.Rules.{rules}
use lib.ListN.{length}
use Rattle.trial_buffer.proofs.Laws.{passed_none, passed_more, whole}
use Rattle.trial_buffer.proofs.whole_lines.Goals as goal

pub loop-used-init : goal.loop-used-init
loop-used-init g c = (passed_none _ _ _ _ _ _ (search rules), search rules)

pub loop-used-smaller : goal.loop-used-smaller
loop-used-smaller g c = omega (arith, c.loop-used.invariant.0.within, c.loop-used-test.true)

pub loop-used-preserved : goal.loop-used-preserved
loop-used-preserved g c =
    let k = c.loop-used in
    let a = c.answers-q in
    let g : 64 ≤ length k.out = omega (arith, c.requires.2, k.invariant.1) in
    (passed_more {r = a.result} g (search rules) k.invariant.0 a.ensures c.send-sent.ensures.sends, search rules)

pub returns : goal.returns
returns g c = whole (search rules) c.loop-used.invariant.0 c.keep-held.ensures
