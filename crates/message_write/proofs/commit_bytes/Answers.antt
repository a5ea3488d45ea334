use mathlib.Core.List.{append-nil}
use Rattle.operation.specs.Operation.{op_bytes}
use Rattle.slices.specs.Bytes.{big_endian}
use Rattle.message.specs.Message.{commit_fields, commit_string}
use Rattle.message_write.proofs.commit_bytes.Goals as goal

pub returns : goal.returns
unfolding commit_fields commit_string op_bytes big_endian
returns c =
    rw (c.copy_from_slice-3.ensures.after, c.copy_from_slice-2.ensures.after, c.copy_from_slice.ensures.after, c.commit_string-f.ensures, append-nil)
