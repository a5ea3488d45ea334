use Rattle.verify.specs.Verify.{link_value}
use Rattle.verify.proofs.link_value.Goals as goal

pub returns : goal.returns
unfolding link_value
returns c = rw (c.digest_of.ensures, c.chain_string.ensures)
