use borrow.Author.Tests.{lt-ltb, le-ltb}
use Rattle.meter_log_told.specs.Told.{tell_whole}
use Rattle.meter_log_told.proofs.tell_whole.Goals as goal

pub returns-then-s-gt-LINE_LIMIT : goal.returns-then-s-gt-LINE_LIMIT
unfolding tell_whole
returns-then-s-gt-LINE_LIMIT c = rw (lt-ltb _ _ c.if-s-gt-LINE_LIMIT.true) c.tell_long.ensures

pub returns : goal.returns
unfolding tell_whole
returns c = rw (le-ltb _ _ c.if-s-gt-LINE_LIMIT.false) (cc)
