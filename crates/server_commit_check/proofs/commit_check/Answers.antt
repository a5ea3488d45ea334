use mathlib.Core.Path.{sym, ◌∙◌}
use native.Mathlib.Omega.{arith}
use Rattle.server_commit_check.proofs.Laws.{place_in}
use Rattle.server_commit_check.proofs.commit_check.Goals as goal

pub overflow_sub-j : goal.overflow_sub-j
overflow_sub-j c =
    let p = place_in c.args.s.now c.args.k (sym c.place_ok.ensures ∙ c.if-place_ok.true) in
    omega (arith, p.0)

pub due_with-n-requires : goal.due_with-n-requires
due_with-n-requires c =
    let p = place_in c.args.s.now c.args.k (sym c.place_ok.ensures ∙ c.if-place_ok.true) in
    omega (arith, p.0, p.1, c.requires)

pub bounds-s-j : goal.bounds-s-j
bounds-s-j c =
    let p = place_in c.args.s.now c.args.k (sym c.place_ok.ensures ∙ c.if-place_ok.true) in
    omega (arith, p.0, p.1, c.requires)
