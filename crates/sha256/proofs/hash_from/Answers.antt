use mathlib.Core.Path.{◌≡◌, refl, ◌∙◌}
use Prim.Native.Nat.{◌*◌, ◌/◌, ◌%◌}
use native.Mathlib.Omega.{arith}
use lib.ListN.{length}
use Rattle.sha256_pad.specs.Inner.{count_of}
use Rattle.sha256.specs.Sha256.{hash_from}
use Rattle.sha256.proofs.Blocks.{rest-is}
use Rattle.sha256.proofs.hash_from.Goals as goal

pub returns-then-n-lt56 : goal.returns-then-n-lt56
unfolding count_of hash_from
returns-then-n-lt56 c =
    let b = c in
    let a = b.args in
    let k = length a.m.now / 64 * 64 in
    let n : count_of (length a.m.now % 64) ≡ 1 = omega arith in
    c.compress-p.ensures ∙ rest-is a.s a.before k a.m.now b.last_blocks-b.result 1 b.whole_blocks-q.ensures refl n b.last_blocks-b.ensures

pub returns-else-n-lt56 : goal.returns-else-n-lt56
unfolding count_of hash_from
returns-else-n-lt56 c =
    let b = c in
    let a = b.args in
    let k = length a.m.now / 64 * 64 in
    let n : count_of (length a.m.now % 64) ≡ 2 = omega arith in
    c.compress.ensures ∙ (let e = c.compress-p.ensures in rw e (refl)) ∙ rest-is a.s a.before k a.m.now b.last_blocks-b.result 2 b.whole_blocks-q.ensures refl n b.last_blocks-b.ensures
