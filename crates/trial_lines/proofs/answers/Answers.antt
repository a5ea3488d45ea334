use Prim.Native.Nat.{◌-◌}
use mathlib.Core.Path.{refl}
use mathlib.Core.Logic.{inl, inr}
use borrow.Author.Rules.{rules}
use native.Mathlib.Omega.{arith}
use Rattle.text.proofs.Cuts.{cut_most, cut_rest}
use Rattle.trial_lines.proofs.Laws.{so_none, so_more, so_ends}
use Rattle.trial_lines.proofs.answers.Goals as goal

pub loop-filled-init : goal.loop-filled-init
loop-filled-init c = (refl, so_none _ _ _ _ _)

pub overflow_sub-room : goal.overflow_sub-room
overflow_sub-room c = let k = c.loop-filled.invariant in omega (arith, k.0, k.1.room)

pub shape_of-out-then-end-text : goal.shape_of-out-then-end-text
shape_of-out-then-end-text c = c.loop-filled.invariant.1.same

pub returns-then-end-text : goal.returns-then-end-text
returns-then-end-text c =
    let k = c.loop-filled.invariant.1 in
    so_ends k (inl (cut_rest k.cut c.find-end.result c.find-end.ensures c.if-end-text.true))

pub slice_bounds-parse-count : goal.slice_bounds-parse-count
slice_bounds-parse-count c =
    let k = c.loop-filled.invariant.1 in
    let f = c.find-end in
    let e = cut_most k.cut f.result f.ensures in
    let g = c.if-end-text.false in
    omega (arith, f.ensures)

pub slice_bounds-parse-start : goal.slice_bounds-parse-start
slice_bounds-parse-start c =
    let k = c.loop-filled.invariant.1 in
    let f = c.find-end in
    let e = cut_most k.cut f.result f.ensures in
    let g = c.if-end-text.false in
    search rules

pub slice_bounds-parse-end : goal.slice_bounds-parse-end
slice_bounds-parse-end c =
    let k = c.loop-filled.invariant.1 in
    let f = c.find-end in
    let e = cut_most k.cut f.result f.ensures in
    let g = c.if-end-text.false in
    search rules

pub overflow_add-number : goal.overflow_add-number
overflow_add-number c =
    let k = c.loop-filled.invariant.1 in
    let f = c.find-end in
    let e = cut_most k.cut f.result f.ensures in
    let g = c.if-end-text.false in
    record { fits = omega (arith, k.each, k.cut.within, e, g, f.ensures, c.requires) }

pub overflow_add-number-in-loop-filled : goal.overflow_add-number-in-loop-filled
overflow_add-number-in-loop-filled c =
    let k = c.loop-filled.invariant.1 in
    let f = c.find-end in
    let e = cut_most k.cut f.result f.ensures in
    let g = c.if-end-text.false in
    record { fits = omega (arith, k.each, k.cut.within, e, g, f.ensures, c.requires) }

pub answer-q-requires : goal.answer-q-requires
answer-q-requires c = let k = c.loop-filled.invariant in omega (arith, k.0, c.loop-filled-test.true, k.1.room, k.1.same)

pub overflow_add-count : goal.overflow_add-count
overflow_add-count c =
    let k = c.loop-filled.invariant.1 in
    let f = c.find-end in
    let e = cut_most k.cut f.result f.ensures in
    let g = c.if-end-text.false in
    record { fits = omega (arith, k.each, k.cut.within, e, g, f.ensures, c.requires) }

pub overflow_add-at : goal.overflow_add-at
overflow_add-at c =
    let k = c.loop-filled.invariant.1 in
    let f = c.find-end in
    let e = cut_most k.cut f.result f.ensures in
    let g = c.if-end-text.false in
    record { fits = omega (arith, k.each, k.cut.within, e, g, f.ensures, c.requires) }

pub loop-filled-smaller : goal.loop-filled-smaller
loop-filled-smaller c =
    let k = c.loop-filled.invariant.1 in
    let f = c.find-end in
    let e = cut_most k.cut f.result f.ensures in
    let g = c.if-end-text.false in
    omega (arith, f.ensures, e, g)

pub loop-filled-preserved : goal.loop-filled-preserved
loop-filled-preserved c =
    let k = c.loop-filled.invariant.1 in
    let f = c.find-end in
    let g = c.if-end-text.false in
    let j = c.loop-filled.invariant.0 in
    (j, so_more k f.result _ _ _ _ f.ensures g (omega (arith, j, c.loop-filled-test.true, k.room)) c.parse-command.ensures c.answer-q.ensures)

pub returns-after-loop-filled : goal.returns-after-loop-filled
returns-after-loop-filled c =
    let k = c.loop-filled.invariant in
    so_ends k.1 (inr (omega (arith, k.0, c.loop-filled-test.false, k.1.room)))
