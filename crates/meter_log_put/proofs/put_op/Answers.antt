use Prim.Native.Nat.{◌≤◌}
use mathlib.Core.Path.{◌≡◌}
use native.Mathlib.Omega.{arith}
use lib.ListN.{length}
use borrow.Author.Rules.{rules}
use Rattle.meter_log_put.specs.Text.{op_text}
use Rattle.operation.specs.Operation.{signed}
use Rattle.text_put.specs.Datum.{datum, signed_datum}
use Rattle.text.specs.Text.{decimal_of}
use Rattle.text_put.proofs.Laws.{Wrote, then, digits_16}
use mir.Facts.{to_z-of_z}
use mir.Val.{to_z, of_z}
use mir.Syntax.{w16}
use Rattle.meter_log_put.proofs.put_op.Goals as goal

pub decimal-i-requires : goal.decimal-i-requires
decimal-i-requires c = let a = c.args in let m = digits_16 a.e.kind (search rules) in omega (arith, c.requires, m)

pub put_datum-j-requires : goal.put_datum-j-requires
put_datum-j-requires c = let a = c.args in let m = digits_16 a.e.kind (search rules) in let d = c.decimal-i in let l : length d.new.out ≡ length a.out.now = search rules in omega (arith, c.requires, m, d.ensures.0)

pub put_datum-k-requires : goal.put_datum-k-requires
put_datum-k-requires c = let a = c.args in let m = digits_16 a.e.kind (search rules) in let d = c.decimal-i in let e = c.put_datum-j in let l : length e.new.out ≡ length a.out.now = search rules in omega (arith, c.requires, m, d.ensures.0, e.ensures.2)

pub put_signed-requires : goal.put_signed-requires
put_signed-requires c = let a = c.args in let m = digits_16 a.e.kind (search rules) in let d = c.decimal-i in let e = c.put_datum-j in let f = c.put_datum-k in let l : length f.new.out ≡ length a.out.now = search rules in omega (arith, c.requires, m, d.ensures.0, e.ensures.2, f.ensures.2)

pub returns : goal.returns
unfolding op_text
returns c =
    let a = c.args in
    let m = digits_16 a.e.kind (search rules) in
    let d = c.decimal-i in
    let e = c.put_datum-j in
    let f = c.put_datum-k in
    let g = c.put_signed in
    let w1 : Wrote a.out.now a.at (decimal_of a.e.kind) d.new.out d.result = record { place = d.ensures.0; bytes = d.ensures.1 } in
    let w2 : Wrote d.new.out d.result (datum a.e.cell) e.new.out e.result = record { place = e.ensures.0; bytes = e.ensures.1 } in
    let w3 : Wrote e.new.out e.result (datum a.e.amount) f.new.out f.result = record { place = f.ensures.0; bytes = f.ensures.1 } in
    let s = c.signed_of in
    let w : Wrote f.new.out f.result (signed_datum (to_z w16 (of_z w16 s.result))) g.new.out g.result = record { place = g.ensures.0; bytes = g.ensures.1 } in
    let w4 : Wrote f.new.out f.result (signed_datum (signed a.e.last)) g.new.out g.result =
    rw s.ensures at (rw (to_z-of_z {w = w16} {z = s.result} (record { sfits = s.type_inv })) at w) in
    let h : a.at ≤ length a.out.now = omega (arith, c.requires) in
    let z = then h (then h (then h w1 w2) w3) w4 in
    (z.place, z.bytes, omega (arith, m, d.ensures.0, e.ensures.2, f.ensures.2, g.ensures.2))
