use mathlib.Core.Path.{◌≡◌, refl, ◌∙◌}
use Prim.Native.Nat.{◌/◌}
use native.Mathlib.Omega.{arith}
use native.Mathlib.Numerals.{add-one}
use lib.ListN.{length}
use Rattle.sha256.specs.Sha256.{hash_from}
use Rattle.sha256.proofs.whole_blocks.Goals as goal

pub loop-n-init : goal.loop-n-init
unfolding hash_from
loop-n-init c = refl

pub loop-n-preserved : goal.loop-n-preserved
unfolding hash_from
loop-n-preserved c = rw (add-one, c.compress-q.ensures, c.loop-n.invariant)

pub returns : goal.returns
returns c = let e : c.loop-n.n ≡ length c.args.m.now / 64 = omega arith in c.loop-n.invariant ∙ rw e
