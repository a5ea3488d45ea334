use mathlib.Core.Path.{sym}
use lib.Seq.{set_out}
use borrow.Author.Rules.{rules}
use Rattle.operation_run.proofs.with_number.Goals as goal

pub returns-else-k-lt-CELL_COUNT : goal.returns-else-k-lt-CELL_COUNT
returns-else-k-lt-CELL_COUNT c =
    let a = c.args in sym (set_out a.s a.i a.x (search rules))
