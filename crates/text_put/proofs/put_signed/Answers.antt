use mathlib.Core.Path.{◌≡◌}
use mathlib.Core.List.{[], ◌∷◌}
use native.Mathlib.Omega.{arith}
use lib.ListN.{length}
use Rattle.text.specs.Text.{decimal_of}
use Rattle.text_put.proofs.Laws.{Wrote, then}
use Rattle.text_put.proofs.Signed.{sized, put_above, put-below}
use borrow.Author.Rules.{rules}
use Rattle.text_put.proofs.put_signed.Goals as goal

pub decimal-requires : goal.decimal-requires
decimal-requires c =
    let b = c in
    let e = c.put_bytes-i in
    let l : length e.new.out ≡ length b.args.out.now = search rules in
    omega (arith, sized b.args.z b.ranges.z c.unsigned_abs-n.result c.unsigned_abs-n.ensures.value, e.ensures.0, b.requires)

pub returns-then-z-lt0 : goal.returns-then-z-lt0
returns-then-z-lt0 c =
    let x = c in
    let b = x in
    let a = b.args in
    let e = x.put_bytes-i in
    let f = c.decimal in
    let v : Wrote a.out.now a.at (32 ∷ 45 ∷ []) e.new.out e.result = record { place = e.ensures.0; bytes = e.ensures.1 } in
    let w : Wrote e.new.out e.result (decimal_of x.unsigned_abs-n.result) f.new.out f.result = record { place = f.ensures.0; bytes = f.ensures.1 } in
    put-below a.z b.ranges.z x.if-z-lt0.true x.unsigned_abs-n.ensures.value (then (omega (arith, b.requires)) v w)

pub returns-else-z-lt0 : goal.returns-else-z-lt0
returns-else-z-lt0 c =
    let x = c in
    let b = x in
    let f = c.put_datum in
    put_above b.args.z b.ranges.z x.if-z-lt0.false x.unsigned_abs-n.ensures.value (record { place = f.ensures.0; bytes = f.ensures.1 })
