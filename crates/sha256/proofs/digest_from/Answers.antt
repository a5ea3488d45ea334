use mathlib.Core.Path.{◌∙◌}
use Rattle.sha256.proofs.Blocks.{digest_from}
use Rattle.sha256.proofs.digest_from.Goals as goal

pub returns : goal.returns
returns c p l e = c.to_bytes.ensures ∙ rw c.hash_from.ensures (digest_from p _ l e)
