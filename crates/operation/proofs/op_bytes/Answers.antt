use Rattle.slices.specs.Bytes.{big_endian}
use Rattle.operation.specs.Operation.{op_bytes}
use native.Mathlib.Nat.{div-one}
use Rattle.operation.proofs.op_bytes.Goals as goal

pub returns : goal.returns
unfolding op_bytes big_endian
returns c = rw (c.to_be_bytes-count.ensures, div-one c.args.e.count)
