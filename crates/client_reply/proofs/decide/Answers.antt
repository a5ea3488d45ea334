use mathlib.Core.Path.{◌∙◌}
use mir.Syntax.{w16}
use mir.Facts.{to_z-of_z}
use Rattle.client_reply.specs.Lists.{lists}
use Rattle.client_reply.proofs.Laws.{aborted_is, response_is}
use Rattle.client_reply.proofs.decide.Goals as goal

pub returns : goal.returns
returns c =
    let a = c.args in
    let e = c.requires.0 in
    let s = c.sort_to in (
      c.conflict.ensures ∙ rw c.push.ensures.0 (aborted_is a.r.now a.m.now a.n e (lists s.result) s.ensures.0),
      to_z-of_z {w = w16} {z = c.response_on.result} (record { sfits = c.response_on.type_inv })
          ∙ c.response_on.ensures
          ∙ rw c.run_all-before.ensures (response_is a.r.now a.m.now a.n e (lists s.result) s.ensures.0),
    )
