use Rattle.hmac.proofs.Laws.{block-length, inner_is, outer_is, hmac_is}
use Rattle.hmac.proofs.tag_by.Goals as goal

pub returns : goal.returns
returns c key e =
    hmac_is key _ (c.digest_from.ensures _ (block-length 0x36 key) (inner_is key e)) (c.digest_from-2.ensures _ (block-length 0x5c key) (outer_is key e))
