use Rattle.log_columns.specs.Columns.{header_ok}
use Rattle.log_columns.proofs.Laws.{count-sound}
use Rattle.log_columns.proofs.header_ok.Goals as goal

pub returns : goal.returns
unfolding header_ok
returns c = rw (← count-sound _ _ c.count_in.ensures, c.times_in.ensures, c.times_in-2.ensures, c.times_in-3.ensures)
