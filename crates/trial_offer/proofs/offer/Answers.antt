use Rattle.std.proofs.Common.{◌≡◌, ℕ, ◌+◌, ◌-◌, ◌*◌, List, length, take, drop, arith, rules}
use Rattle.trial_offer.proofs.Offers.{offered_part}
use Rattle.server_laws.proofs.State.{Sizes}
use Rattle.trial_offer.proofs.offer.Goals as goal

pub returns : goal.returns
returns c =
    let a = c.args in
    let q = c.receive-q in
    let sz : Sizes a.s = record { counts = search rules; items = search rules; statuses = search rules; digests = search rules; tags = search rules } in
    let e : a.i * 1315 + 1315 - a.i * 1315 ≡ 1315 = omega arith in
    let y : List ℕ = q.new.out in
    let lo : length y ≡ length (take (a.i * 1315 + 1315 - a.i * 1315) (drop (a.i * 1315) a.replies.now)) = search rules in
    let z : length a.replies.now ≡ 10520 = search rules in
    offered_part a.s a.l a.i a.m.now a.replies.now c.requires z y (a.i * 1315 + 1315 - a.i * 1315) e sz
    q.ensures.0
    q.ensures.1
    q.ensures.2
    lo
    c.reply_length-length.ensures
    c.is_placed-placed.ensures
    c.offered_lines.ensures
    c.served_said.ensures
