use Prim.Native.Nat.{◌-◌}
use mathlib.Core.Path.{refl}
use native.Mathlib.Omega.{arith}
use borrow.Author.Rules.{rules}
use Rattle.trial_io.proofs.Going.{not_flip, going_none, going_fits, going_more, going_ends, read_less}
use Rattle.trial_io.proofs.read_lines.Goals as goal

pub loop-going-init : goal.loop-going-init
loop-going-init g c = (going_none _ _ _ _ c.start.ensures c.requires.2 c.none.ensures.0 c.requires.0, refl)

pub whole_lines-after-requires : goal.whole_lines-after-requires
whole_lines-after-requires g c = let k = c.loop-going.invariant.0 in let d = c.read-got.ensures.reads in (omega (arith, d.within), omega (arith, k.size), omega (arith, c.loop-going.invariant.1, c.requires.1), going_fits k d)

pub loop-going-smaller : goal.loop-going-smaller
loop-going-smaller g c = read_less c.read-got.ensures.reads c.is_none.result c.loop-going.invariant.0.below c.loop-going-test.true c.goes_on.ensures

pub loop-going-preserved : goal.loop-going-preserved
loop-going-preserved g c = let k = c.loop-going.invariant.0 in (going_more k c.read-got.ensures.reads (search rules) c.whole_lines-after.ensures (search rules) c.goes_on.ensures (not_flip _ _ c.is_none.ensures), search rules)

pub returns : goal.returns
returns g c = going_ends c.loop-going.invariant.0 c.loop-going-test.false
