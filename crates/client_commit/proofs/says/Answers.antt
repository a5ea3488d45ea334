use mathlib.Core.Path.{ap}
use mir.Facts.{to_z-of_z}
use mir.Syntax.{w16}
use Rattle.replica.specs.Outcome.{responded}
use borrow.Author.Rules.{rules}
use Rattle.client_commit.proofs.says.Goals as goal

pub returns-then-v : goal.returns-then-v
returns-then-v c = rw c.if-v.true

pub returns-else-v : goal.returns-else-v
returns-else-v c =
    let a = c.args in
    let back = to_z-of_z {w = w16} {z = a.v.response} (search rules) in
    rw c.if-v.false (ap (responded a.seq) back)
