use Rattle.sha256_core.specs.Round.{round_at}
use Rattle.sha256_block.proofs.Steps.{eight_is}
use Rattle.sha256_compress.proofs.eight.Goals as goal

pub returns : goal.returns
returns c =
    let b7 = c in
    let a = b7.args in
    eight_is (λ i. round_at i a.w.now) a.t a.s b7.round-s1.ensures c.round-s2.ensures c.round-s3.ensures c.round-s4.ensures c.round-s5.ensures c.round-s6.ensures c.round-s7.ensures c.round.ensures
