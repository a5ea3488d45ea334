use Rattle.std.proofs.Common.{◌≡◌, ◌∙◌, ◌+◌, ◌-◌, ◌*◌, length, replicate, rules, arith}
use Rattle.trial_start.proofs.Laws.{keys_none, keys_more}
use Rattle.trial_start.proofs.keys.Goals as goal

pub loop-i-init : goal.loop-i-init
loop-i-init c = keys_none c.no_keys-keys.result

pub loop-i-preserved : goal.loop-i-preserved
loop-i-preserved c =
    let o = c.loop-i in
    let q = c.copy_from_slice in
    let n : o.i * 32 + 32 - o.i * 32 ≡ 32 = omega arith in
    let e : q.new.self ≡ replicate 32 (o.i + 1) = search rules in
    keys_more c.no_keys-keys.result o.keys q.new.self o.i (o.i * 32 + 32 - o.i * 32) n o.invariant e
