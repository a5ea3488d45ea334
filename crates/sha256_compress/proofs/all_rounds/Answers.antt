-- how many words beyond the first 16 are there after n eights of rounds: eight for each, but 48 at the most
use mathlib.Core.Path.{◌≡◌, refl, ◌∙◌}
use mathlib.Core.List.{List}
use Prim.Native.Nat.{ℕ, ◌<◌, ◌≤◌, ◌+◌, ◌*◌, min}
use native.Mathlib.Omega.{arith}
use lib.ListN.{length, take, length-take}
use Rattle.sha256_block.specs.Block.{schedule, rounds}
use Rattle.sha256_block.specs.Inner.{add_words}
use Rattle.sha256_block.proofs.Schedule.{length_words, add_words_lem}
use Rattle.sha256_compress.proofs.Rounds.{part_rounds}
use Rattle.sha256_compress.proofs.all_rounds.Goals as goal

-- eight words more, while the schedule has fewer than 48
made : (n : ℕ) (w v b : List ℕ) → n < 6 → v ≡ add_words 8 (16 + 8 * n) w → length w ≡ 64
    → take (16 + min (8 * n) 48) w ≡ schedule (min (8 * n) 48) b
    → take (16 + min (8 * (n + 1)) 48) v ≡ schedule (min (8 * (n + 1)) 48) b
made n w v b h e k i =
    let g : min (8 * n) 48 ≡ 8 * n = omega arith in
    let f : min (8 * (n + 1)) 48 ≡ 8 * n + 8 = omega arith in
    rw (f, e) (add_words_lem 8 (8 * n) w b (omega (arith, h, k)) (rw g at i))

-- all 48 are there
kept : (n : ℕ) (w v b : List ℕ) → 6 ≤ n → v ≡ w → take (16 + min (8 * n) 48) w ≡ schedule (min (8 * n) 48) b
    → take (16 + min (8 * (n + 1)) 48) v ≡ schedule (min (8 * (n + 1)) 48) b
kept n w v b h e i =
    let g : min (8 * n) 48 ≡ 48 = omega arith in
    let f : min (8 * (n + 1)) 48 ≡ 48 = omega arith in
    rw (f, e) (rw g at i)

pub loop-n-init : goal.loop-n-init
unfolding schedule rounds
loop-n-init c = (c.requires, refl, refl)

pub loop-n-preserved : goal.loop-n-preserved
loop-n-preserved c =
    let l = c.loop-n in
    let a = c.args in
    let b = take 16 a.w.now in
    let z : length b ≡ 16 = omega (arith, length-take 16 a.w.now, c.requires) in
    let f : 8 * (l.n + 1) ≡ 8 * l.n + 8 = omega arith in
    let q = c.eight-q.ensures ∙ part_rounds b z (min (8 * l.n) 48) 48 8 (8 * l.n) l.w a.s l.q (omega arith) l.invariant.1 (omega arith) l.invariant.2 in
    let r : c.eight-q.result ≡ rounds (8 * (l.n + 1)) (schedule 48 b) a.s = rw f q in
    (grind (arith, length_words, l.invariant.0), grind (arith, made, kept, l.invariant.0, l.invariant.1), r)

pub returns : goal.returns
returns c = let e : c.loop-n.n ≡ 8 = omega arith in c.loop-n.invariant.2 ∙ rw e
