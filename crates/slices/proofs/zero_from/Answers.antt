use Rattle.std.proofs.Common.{sym, ap, ◌∙◌, ◌+◌, Bool, ◌&&◌, get_or, drop}
use Rattle.slices.specs.Bytes.{all, is_zero}
use Rattle.slices.proofs.Laws.{all_more, all_done, or-zero}
use Rattle.slices.proofs.zero_from.Goals as goal

pub loop-i-preserved : goal.loop-i-preserved
loop-i-preserved c =
    let l = c.loop-i in
    let s = c.args.s.now in
    l.invariant
    ∙ all_more is_zero s l.i (is_zero l.any) c.loop-i-test.true
    ∙ ap (λ (b : Bool). b && all is_zero (drop (l.i + 1) s)) (sym (or-zero l.any (get_or s l.i 0)))

pub returns : goal.returns
returns c = sym (c.loop-i.invariant ∙ all_done is_zero _ _ _ c.loop-i-test.false)
