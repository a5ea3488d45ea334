use mathlib.Core.Path.{◌≡◌}
use Rattle.sha256.specs.Sha256.{hash_from}
use Rattle.sha256.proofs.whole_blocks.Given as goal

abbrev pub invariant-loop-n : goal.invariant-loop-n
invariant-loop-n l = l.q ≡ hash_from l.initial.q l.n l.m
