use Rattle.std.proofs.Common.{◌∙◌, ◌+◌, rules}
use Rattle.trial_commit.proofs.Laws.{commit_fits, commit_logged, commit_server}
use Rattle.server_laws.proofs.State.{Sizes}
use Rattle.trial_commit.proofs.commit.Goals as goal

pub append-requires : goal.append-requires
append-requires c =
    let a = c.args in
    let q = c.receive-q in
    let sz : Sizes a.s = record { counts = search rules; items = search rules; statuses = search rules; digests = search rules; tags = search rules } in
    let z = c.broadcast_buffer-out.ensures in
    commit_fits a.s (a.i + 1) a.m.now c.broadcast_buffer-out.result a.log.now sz z q.new.out q.ensures.2 q.ensures.1 c.broadcast_count-n.ensures

pub returns : goal.returns
returns c =
    let a = c.args in
    let q = c.receive-q in
    let sz : Sizes a.s = record { counts = search rules; items = search rules; statuses = search rules; digests = search rules; tags = search rules } in
    let z = c.broadcast_buffer-out.ensures in (
      q.ensures.0 ∙ commit_server a.s (a.i + 1) a.m.now c.broadcast_buffer-out.result a.log.now sz z q.new.out,
      commit_logged a.s (a.i + 1) a.m.now c.broadcast_buffer-out.result a.log.now sz z q.new.out q.ensures.2 q.ensures.1 c.broadcast_count-n.ensures c.append.ensures,
    )
