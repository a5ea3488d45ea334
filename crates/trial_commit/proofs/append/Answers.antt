use Rattle.std.proofs.Common.{◌≡◌, ℕ, ◌+◌, ◌-◌, ◌*◌, ◌%◌, ◌≤◌, length, take, drop, arith, rules}
use Rattle.trial_commit.proofs.Laws.{logged_none, logged_more}
use Rattle.trial_commit.proofs.append.Goals as goal

pub loop-k-init : goal.loop-k-init
loop-k-init c = logged_none c.args.log.now c.args.out.now c.args.passed

pub loop-k-preserved : goal.loop-k-preserved
loop-k-preserved c =
    let a = c.args in
    let o = c.loop-k in
    let y = c.copy_from_slice.new.self in
    let place : ℕ = (a.passed + o.k) % 512 * 80 in
    let n : place + 80 - place ≡ 80 = omega arith in
    let m : o.k * 80 + 80 - o.k * 80 ≡ 80 = omega arith in
    let h : o.k * 80 + 80 ≤ length a.out.now = search rules in
    let e : y ≡ take (o.k * 80 + 80 - o.k * 80) (drop (o.k * 80) a.out.now) = search rules in
    logged_more a.log.now o.log a.out.now y a.passed o.k (place + 80 - place) (o.k * 80 + 80 - o.k * 80) n m h e o.invariant
