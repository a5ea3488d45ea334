use Rattle.trial_answer.proofs.Laws.{said_of}
use Rattle.trial_answer.proofs.answer.Goals as goal

pub returns : goal.returns
returns c =
    let p = c.put_line.ensures in
    said_of _ _ _ _ _ _ _ _ _ _ _ c.step-r.ensures p.0 p.1 p.2
