use mathlib.Core.Logic.{inl, inr}
use mathlib.Core.Path.{refl}
use native.Mathlib.Omega.{arith}
use borrow.Author.Rules.{rules}
use Rattle.meter_log_lines.proofs.Laws.{so_none, so_more, so_ends}
use Rattle.text.proofs.Cuts.{cut_most, cut_rest}
use Rattle.meter_log_lines.proofs.tell_lines.Goals as goal

pub loop-filled-init : goal.loop-filled-init
loop-filled-init c = (refl, so_none _ _ _ _)

pub overflow_sub-room : goal.overflow_sub-room
overflow_sub-room c = let k = c.loop-filled.invariant in omega (arith, k.0, k.1.buffer.room)

pub shape_of-out-then-end-text : goal.shape_of-out-then-end-text
shape_of-out-then-end-text c = c.loop-filled.invariant.1.buffer.same

pub returns-then-end-text : goal.returns-then-end-text
returns-then-end-text c = let k = c.loop-filled.invariant.1 in so_ends k (inl (cut_rest k.cut c.find-end.result c.find-end.ensures c.if-end-text.true))

pub slice_bounds-tell_whole-count : goal.slice_bounds-tell_whole-count
slice_bounds-tell_whole-count c = let k = c.loop-filled.invariant.1 in let f = c.find-end in let e = cut_most k.cut f.result f.ensures in let g = c.if-end-text.false in omega (arith, f.ensures)

pub slice_bounds-tell_whole-start : goal.slice_bounds-tell_whole-start
slice_bounds-tell_whole-start c = let k = c.loop-filled.invariant.1 in let f = c.find-end in let e = cut_most k.cut f.result f.ensures in let g = c.if-end-text.false in search rules

pub slice_bounds-tell_whole-end : goal.slice_bounds-tell_whole-end
slice_bounds-tell_whole-end c = let k = c.loop-filled.invariant.1 in let f = c.find-end in let e = cut_most k.cut f.result f.ensures in let g = c.if-end-text.false in search rules

pub overflow_add-number : goal.overflow_add-number
overflow_add-number c =
    let k = c.loop-filled.invariant.1 in
    let f = c.find-end in
    let e = cut_most k.cut f.result f.ensures in
    record { fits = omega (arith, k.each, k.cut.within, e, c.if-end-text.false, f.ensures, c.requires, c.well_formed.1.0) }

pub overflow_add-number-in-loop-filled : goal.overflow_add-number-in-loop-filled
overflow_add-number-in-loop-filled c =
    let k = c.loop-filled.invariant.1 in
    let f = c.find-end in
    let e = cut_most k.cut f.result f.ensures in
    record { fits = omega (arith, k.each, k.cut.within, e, c.if-end-text.false, f.ensures, c.requires, c.well_formed.1.0) }

pub put_told-filled-requires : goal.put_told-filled-requires
put_told-filled-requires c = let k = c.loop-filled.invariant in omega (arith, k.0, c.loop-filled-test.true, k.1.buffer.room, k.1.buffer.same)

pub overflow_add-count : goal.overflow_add-count
overflow_add-count c =
    let k = c.loop-filled.invariant.1 in
    let f = c.find-end in
    let e = cut_most k.cut f.result f.ensures in
    record { fits = omega (arith, k.each, k.cut.within, e, c.if-end-text.false, f.ensures, c.requires, c.well_formed.1.0) }

pub overflow_add-at : goal.overflow_add-at
overflow_add-at c = let k = c.loop-filled.invariant.1 in let f = c.find-end in let e = cut_most k.cut f.result f.ensures in let g = c.if-end-text.false in search rules

pub loop-filled-smaller : goal.loop-filled-smaller
loop-filled-smaller c = let k = c.loop-filled.invariant.1 in let f = c.find-end in let e = cut_most k.cut f.result f.ensures in let g = c.if-end-text.false in omega (arith, f.ensures, e, g)

pub loop-filled-preserved : goal.loop-filled-preserved
loop-filled-preserved c = let k = c.loop-filled.invariant in let f = c.find-end in (k.0, so_more k.1 f.result _ _ _ f.ensures c.if-end-text.false (omega (arith, k.0, c.loop-filled-test.true, k.1.buffer.room)) c.tell_whole-s.ensures c.put_told-filled.ensures)

pub shape_of-out : goal.shape_of-out
shape_of-out c = c.loop-filled.invariant.1.buffer.same

pub returns : goal.returns
returns c = let k = c.loop-filled.invariant in so_ends k.1 (inr (omega (arith, k.0, c.loop-filled-test.false, k.1.buffer.room)))
