use Rattle.log_names.proofs.hit.Goals as goal

pub returns-then-equal : goal.returns-then-equal
returns-then-equal c = rw (← c.equal.ensures, c.if-equal.true)

pub returns-else-equal : goal.returns-else-equal
returns-else-equal c = rw (← c.equal.ensures, c.if-equal.false)
