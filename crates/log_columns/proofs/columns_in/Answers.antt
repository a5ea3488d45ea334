use Rattle.log_columns.specs.Columns.{columns_of}
use Rattle.log_columns.proofs.Laws.{count-fields}
use Rattle.log_columns.proofs.columns_in.Goals as goal

pub returns : goal.returns
unfolding columns_of
returns c = rw (count-fields _ _ c.count_in.ensures c.requires, c.column_in.ensures, c.column_in-2.ensures, c.column_in-3.ensures)
