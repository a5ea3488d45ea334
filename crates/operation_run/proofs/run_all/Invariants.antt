use Rattle.operation.specs.Operation.{run_all}
use mathlib.Core.Path.{◌≡◌}
use lib.ListN.{take}
use Rattle.operation_run.proofs.run_all.Given as goal

abbrev pub invariant-loop-e : goal.invariant-loop-e
invariant-loop-e l = l.after ≡ run_all (take l.e-index l.es) l.fn.cells
