use Prim.Native.Nat.{ℕ}
use mathlib.Core.Path.{◌≡◌, refl, sym, ◌∙◌}
use mathlib.Core.Bool.{false}
use native.Mathlib.Omega.{arith}
use borrow.Author.Rules.{rules}
use lib.ListN.{length-set, length-replicate}
use Rattle.std.proofs.lemmas.List.{nil_from_length}
use Rattle.operation.specs.Operation.{value_response}
use Rattle.conflict_marks.specs.Marks.{Has, marks_at}
use Rattle.conflict_marks.proofs.Stored.{clash, below, laid_blank}
use Rattle.conflict_marks.proofs.Moved.{own_moved}
use Rattle.conflict_marks.proofs.Look.{none_other}
use Rattle.conflict_cell.proofs.First.{first_marks, start_blank}
use Rattle.conflict_cell.proofs.Reach.{op_no, ran_none, begins}
use Rattle.conflict_cell.proofs.Steps.{next, own_step, differs_at, finished, other_step}
use Rattle.conflict_cell.proofs.conflict_at.Goals as goal
use Rattle.conflict_cell.proofs.conflict_at.Goals.{then-any_other+else-loop-v-test, else-any_other}

pub merge-requires : goal.merge-requires
merge-requires c = (omega arith, length-replicate 256 false)

pub search-init : goal.search-init
search-init c =
    let a = c.args in
    (search rules, begins _ _ (first_marks a.start (search rules) c.merge.ensures) (omega (arith, c.requires.1)), start_blank a.start (search rules))

pub loop-j-init : goal.loop-j-init
loop-j-init c = (sym (ran_none _), c.search.invariant.0, (λ j v h. absurd (omega arith)), c.search.invariant.1, c.search.invariant.2)

pub lay_out-requires : goal.lay_out-requires
lay_out-requires c = let l = c.loop-j in (l.invariant.3.long l.j (omega arith), l.invariant.4)

pub loop-v-init : goal.loop-v-init
loop-v-init c = λ x h. absurd (omega arith)

pub bounds-reach-v : goal.bounds-reach-v
bounds-reach-v c = let l = c.loop-j in search (rules, l.invariant.3.long l.j (omega arith))

pub loop-j-preserved : goal.loop-j-preserved
loop-j-preserved c =
    let a = c.args in
    let l = c.loop-j in
    let own = a.own.now in
    let x = c.value_response-expected in
    let y = c.lay_out.ensures in
    let long = l.invariant.3.long l.j (omega arith) in
    let same : (v : ℕ) → Has (marks_at l.reach l.j) v → value_response (op_no own l.j) v ≡ value_response (op_no own l.j) l.u =
    elim c.if-any_other.branch [
      | then-any_other+else-loop-v-test w ↦ λ v o. w.loop-v.invariant v (omega (arith, below (marks_at l.reach l.j) v long o, w.loop-v-test.false)) o ∙ x.ensures
      | else-any_other w ↦ λ v o. none_other _ _ y c.any_other.ensures w.if-any_other.false v o
    ] in
    let moved = own_moved l.u long y (rw x.ensures at c.moved_from-at.ensures.1) same c.run_into.ensures in
    let r = own_step a.start own l.j l.u c.loop-j-test.true (omega (arith, l.invariant.1, c.requires.1)) l.invariant.0 moved same l.invariant.2 l.invariant.3 in
    (c.value_after-u.ensures ∙ next a.start own l.j l.u c.loop-j-test.true l.invariant.0, simp length-set l.invariant.1, r.0, r.1, laid_blank y)

pub returns-in_default : goal.returns-in_default
returns-in_default c =
    let a = c.args in
    let l = c.loop-j in
    ((λ e. absurd (clash refl e)), λ g. absurd (finished a.start a.own.now l.j (omega arith) l.invariant.2 (rw (nil_from_length c.search.rest.now c.in_default.ensures.cases) at l.invariant.3) g))

pub search-preserved : goal.search-preserved
search-preserved c =
    let a = c.args in
    let l = c.loop-j in
    (c.widen.ensures.0.long, other_step a.start a.own.now l.j (omega arith) l.invariant.2 (rw c.in-Some.ensures.cases.0 at l.invariant.3) c.widen.ensures.0, c.widen.ensures.1)

pub returns : goal.returns
returns c =
    let a = c.args in
    let l = c.loop-j in
    let x = c.value_response-expected in (
      (λ e. differs_at a.start a.own.now l.j l.u c.loop-v.v l.invariant.3 c.loop-j-test.true l.invariant.0 c.if-reach-j.true (λ e. c.if-value_response-expected.true (c.value_response.ensures ∙ e ∙ sym x.ensures))),
      λ g. refl,
    )
