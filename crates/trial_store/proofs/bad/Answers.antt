use Rattle.trial_store.proofs.Laws.{unmoved_is}
use Rattle.trial_said.specs.Word.{bad}
use Rattle.trial_store.proofs.bad.Goals as goal

pub returns : goal.returns
returns c = λ b. unmoved_is c.args.t b 0 bad
