use Rattle.std.proofs.Common.{arith}
use Rattle.sha256_core.proofs.Bits.{choose}
use Rattle.sha256_core.proofs.ch.Goals as goal

pub returns : goal.returns
returns c = choose 32 c.args.x c.args.y c.args.z (omega arith) (omega arith)
