use Prim.Native.Nat.{◌+◌, ◌≤◌}
use native.Mathlib.Omega.{arith}
use borrow.Author.Rules.{rules}
use Rattle.meter_log_parts.proofs.Laws.{over_within, over_all, over_to}
use Rattle.meter_log_parts.proofs.tell_over.Goals as goal

pub returns-then-e-n : goal.returns-then-e-n
returns-then-e-n g c = over_all _ _ _ c.requires.0 c.find-e.ensures _ _ (search rules) c.if-e-n.true (search rules)

pub tell_one-next-requires : goal.tell_one-next-requires
tell_one-next-requires g c = let e = over_within _ _ _ c.requires.0 c.find-e.ensures in let f = c.if-e-n.false in search rules

pub overflow_add-e : goal.overflow_add-e
overflow_add-e g c = let e = over_within _ _ _ c.requires.0 c.find-e.ensures in search rules

pub tell_from-requires : goal.tell_from-requires
tell_from-requires g c =
    let e = over_within _ _ _ c.requires.0 c.find-e.ensures in
    let f : c.find-e.result + 1 ≤ c.args.n = omega (arith, e, c.if-e-n.false) in
    let h = c.tell_one-next.ensures.number in
    search rules

pub returns : goal.returns
returns g c =
    let t = c.tell_from.ensures in
    over_to _ _ _ c.requires.0 c.find-e.ensures _ c.if-e-n.false c.tell_long-step.ensures c.tell_one-next.ensures t.0 t.1
