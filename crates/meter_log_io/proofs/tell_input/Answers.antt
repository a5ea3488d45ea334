use Prim.Native.Nat.{◌-◌}
use Rattle.std.specs.Prelude.{is_none}
use mathlib.Core.Bool.{not}
use mathlib.Core.Path.{◌≡◌, refl, ap}
use native.Mathlib.Omega.{arith}
use lib.ListN.{length}
use borrow.Author.Rules.{rules}
use Rattle.input.specs.Reads.{goes_on}
use Rattle.meter_log_io.proofs.InParts.{read_held, reached_none, reached-few, reached_next, on, stopped}
use Rattle.meter_log_io.proofs.tell_input.Goals as goal

pub loop-got-init : goal.loop-got-init
loop-got-init g c = (reached_none _ _ c.first-state.ensures, search rules, search rules, refl, search rules)

pub more-q-requires : goal.more-q-requires
more-q-requires g c =
    let k = c.loop-got.invariant in
    let f = reached-few k.0 k.1 in
    let r = read_held c.loop-got.kept c.unwrap_or.ensures c.read-got.ensures.reads in
    let l : length c.read-got.new.buf ≡ length c.loop-got.buf = search rules in
    (r.behind, omega (arith, r.within, l), search rules, search rules, omega (arith, f, r.counted, k.4, r.behind))

pub returns-then-not-again : goal.returns-then-not-again
returns-then-not-again g c =
    let k = c.loop-got.invariant in
    let r = c.read-got in
    let d = read_held c.loop-got.kept c.unwrap_or.ensures r.ensures.reads in
    let m = c.more-q.ensures in
    stopped k.0 k.4 k.2 (search rules) d m c.again.ensures (ap not c.if-not-again.true)

pub loop-got-smaller : goal.loop-got-smaller
loop-got-smaller g c = let r = read_held c.loop-got.kept c.unwrap_or.ensures c.read-got.ensures.reads in let y = on (goes_on c.read-got.result.brought) (is_none c.more-q.result.state.sent.failed) _ c.again.ensures (ap not c.if-not-again.false) in omega (arith, r.some y.0, r.counted, r.below y.0)

pub loop-got-preserved : goal.loop-got-preserved
loop-got-preserved g c =
    let k = c.loop-got.invariant in
    let r = c.read-got in
    let d = read_held c.loop-got.kept c.unwrap_or.ensures r.ensures.reads in
    let m = c.more-q.ensures in
    let y = on (goes_on r.result.brought) (is_none c.more-q.result.state.sent.failed) _ c.again.ensures (ap not c.if-not-again.false) in
    let l : length r.new.buf ≡ length c.loop-got.buf = search rules in
    (reached_next k.0 (omega (arith, l)) d m, m.room, search rules, search rules, omega (arith, d.below y.0))
