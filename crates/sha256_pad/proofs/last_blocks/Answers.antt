use Rattle.std.proofs.Common.{◌≡◌, ◌∙◌, ◌*◌, div-one}
use Rattle.slices.specs.Bytes.{big_endian}
use Rattle.sha256_pad.proofs.Laws.{last_is}
use Rattle.sha256_pad.proofs.last_blocks.Goals as goal

pub returns : goal.returns
unfolding big_endian
returns c =
    let bits : c.to_be_bytes.result ≡ big_endian 8 (8 * c.args.total) = cc (div-one (8 * c.args.total), c.to_be_bytes.ensures) in
    last_is c.args.rest.now c.args.total _ c.requires.0 c.copy_from_slice.ensures.after (c.copy_from_slice-2.ensures.after ∙ bits)
