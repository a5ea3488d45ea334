use Prim.Native.Nat.{◌-◌}
use native.Mathlib.Omega.{arith}
use lib.ListN.{drop, length-take}
use borrow.Author.Rules.{rules}
use Rattle.meter_log_parts.proofs.Laws.{passing_none, passing_more, passing_past}
use Rattle.meter_log_parts.proofs.tell_between.Goals as goal

pub loop-used-init : goal.loop-used-init
loop-used-init g c = (passing_none _ _ _ _ (search rules) (search rules), search rules)

pub tell_lines-q-requires : goal.tell_lines-q-requires
tell_lines-q-requires g c = let k = c.loop-used.invariant.0 in omega (arith, k.few, k.low, k.within, c.requires, length-take (c.args.n - c.loop-used.at) (drop c.loop-used.at c.args.buf.now))

pub overflow_add-state : goal.overflow_add-state
overflow_add-state g c = let k = c.loop-used.invariant.0 in let a = c.tell_lines-q.ensures in record { fits = omega (arith, k.few, k.low, k.within, c.requires, a.each, a.within, length-take (c.args.n - c.loop-used.at) (drop c.loop-used.at c.args.buf.now)) }

pub loop-used-preserved : goal.loop-used-preserved
loop-used-preserved g c = let k = c.loop-used in let a = c.tell_lines-q in (passing_more {r = a.result} (search rules) k.invariant.0 a.ensures c.send-sent.ensures.sends, search rules)

pub returns : goal.returns
returns g c = let k = c.loop-used.invariant.0 in (passing_past (search rules) k, k.low, k.within)
