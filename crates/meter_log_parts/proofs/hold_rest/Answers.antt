use borrow.Author.Rules.{rules}
use Rattle.meter_log_parts.proofs.Laws.{keeps_over, keeps_all}
use Rattle.meter_log_parts.proofs.hold_rest.Goals as goal

pub returns-then-held-buf : goal.returns-then-held-buf
returns-then-held-buf c = let p = c.requires in (keeps_over _ _ _ p.0 p.1 p.2 (search rules), search rules)

pub returns : goal.returns
returns c = let p = c.requires in (keeps_all _ _ _ p.0 p.1 p.2 _ c.to_front.ensures (λ z. c.if-held-buf.false (search rules)), search rules)
