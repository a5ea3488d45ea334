use Rattle.trial_start.proofs.Laws.{eight, started}
use Rattle.trial_start.proofs.start.Goals as goal

pub returns : goal.returns
returns c =
    started
    (eight c.opened.ensures c.opened-2.ensures c.opened-3.ensures c.opened-4.ensures c.opened-5.ensures c.opened-6.ensures c.opened-7.ensures c.opened-8.ensures)
    c.fresh.ensures
    c.no_lines.ensures
