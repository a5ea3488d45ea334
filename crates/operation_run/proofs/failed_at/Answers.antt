use mathlib.Core.Path.{refl}
use Rattle.operation_run.proofs.failed_at.Goals as goal

pub returns : goal.returns
returns c = refl
