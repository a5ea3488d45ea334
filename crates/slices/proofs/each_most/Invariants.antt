use Rattle.std.proofs.Common.{◌≡◌, ◌&&◌, leb, drop}
use Rattle.slices.specs.Bytes.{all}
use Rattle.slices.proofs.each_most.Given as goal

abbrev pub invariant-loop-x : goal.invariant-loop-x
invariant-loop-x l = all (λ x. leb x l.max) l.s ≡ (l.ok && all (λ x. leb x l.max) (drop l.x-index l.s))
