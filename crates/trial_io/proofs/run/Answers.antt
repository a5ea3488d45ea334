use mathlib.Core.Path.{◌≡◌, sym, ◌∙◌}
use mathlib.Core.Bool.{Bool}
use native.Mathlib.Omega.{arith}
use borrow.Author.Rules.{rules}
use Rattle.trial_io.proofs.Going.{ran-short, ran-ended}
use Rattle.trial_io.proofs.run.Goals as goal

at-end-was : {a b c : Bool} → a ≡ b → a ≡ c → b ≡ c
at-end-was e f = sym e ∙ f

pub read_lines-q-requires : goal.read_lines-q-requires
read_lines-q-requires g c = (search rules, search rules, c.fresh_lent-lent.ensures)

pub end_line-n-requires : goal.end_line-n-requires
end_line-n-requires g c = c.read_lines-q.ensures.room

pub whole_lines-last-requires : goal.whole_lines-last-requires
whole_lines-last-requires g c = let k = c.read_lines-q.ensures in let d = c.end_line-n.ensures in (search rules, search rules, search rules, omega (arith, k.few, k.below, d.few))

pub returns-then-at_end : goal.returns-then-at_end
returns-then-at_end g c = ran-ended c.read_lines-q.ensures c.ended_by-why.ensures (at-end-was c.at_end.ensures c.if-at_end.true) c.end_line-n.ensures (search rules) c.whole_lines-last.ensures c.ended_by.ensures

pub returns : goal.returns
returns g c = ran-short c.read_lines-q.ensures c.ended_by-why.ensures (at-end-was c.at_end.ensures c.if-at_end.false)
