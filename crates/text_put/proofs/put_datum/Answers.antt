use mathlib.Core.Path.{◌≡◌}
use mathlib.Core.List.{[], ◌∷◌}
use native.Mathlib.Omega.{arith}
use lib.ListN.{length}
use Rattle.text.specs.Text.{decimal_of}
use Rattle.text_put.proofs.Laws.{Wrote, then, digits_32}
use borrow.Author.Rules.{rules}
use Rattle.text_put.proofs.put_datum.Goals as goal

pub decimal-requires : goal.decimal-requires
decimal-requires c =
    let a = c.args in
    let l : length c.put_bytes-i.new.out ≡ length a.out.now = search rules in
    omega (arith, digits_32 a.n (search rules), c.put_bytes-i.ensures.0, c.requires)

pub returns : goal.returns
returns c =
    let a = c.args in
    let e = c.put_bytes-i in
    let f = c.decimal in
    let v : Wrote a.out.now a.at (32 ∷ []) e.new.out e.result = record { place = e.ensures.0; bytes = e.ensures.1 } in
    let w : Wrote e.new.out e.result (decimal_of a.n) f.new.out f.result = record { place = f.ensures.0; bytes = f.ensures.1 } in
    let z = then (omega (arith, c.requires)) v w in
    (z.place, z.bytes, omega (arith, z.place, digits_32 a.n (search rules)))
