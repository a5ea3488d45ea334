use Rattle.operation.specs.Operation.{after}
use Rattle.operation_run.proofs.run_on.Goals as goal

pub returns : goal.returns
unfolding after
returns c =
    let x = c in
    rw (c.with_number-new_temps.ensures, c.with_number-new_values.ensures, c.temp_after-t.ensures, x.number_at-2.ensures, x.value_after-v.ensures, x.number_at.ensures)
