use Rattle.std.proofs.Common.{◌≡◌, length, take}
use Rattle.sha256_block.specs.Block.{words_at}
use Rattle.sha256_block.proofs.load.Given as goal

abbrev pub invariant-loop-n : goal.invariant-loop-n
invariant-loop-n l = (length l.w ≡ 64) × (take l.n l.w ≡ words_at l.n l.m l.at)
