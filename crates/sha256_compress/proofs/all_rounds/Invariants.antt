-- how many words beyond the first 16 are there after n eights of rounds: eight for each, but 48 at the most
use mathlib.Core.Path.{◌≡◌}
use Prim.Native.Nat.{◌+◌, ◌*◌, min}
use lib.ListN.{length, take}
use Rattle.sha256_block.specs.Block.{schedule, rounds}
use Rattle.sha256_compress.proofs.all_rounds.Given as goal

abbrev pub invariant-loop-n : goal.invariant-loop-n
invariant-loop-n l = (length l.w ≡ 64) × (take (16 + min (8 * l.n) 48) l.w ≡ schedule (min (8 * l.n) 48) (take 16 l.initial.w))
    × (l.q ≡ rounds (8 * l.n) (schedule 48 (take 16 l.initial.w)) l.initial.q)
