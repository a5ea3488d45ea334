use Prim.Native.Nat.{◌≤◌}
use mathlib.Core.Path.{◌≡◌}
use mathlib.Core.List.{[], ◌∷◌}
use native.Mathlib.Omega.{arith}
use lib.ListN.{length}
use borrow.Author.Rules.{rules}
use Rattle.text.specs.Text.{decimal_of}
use Rattle.text_put.proofs.Laws.{Wrote, then, digits_64}
use Rattle.meter_log_put.specs.Text.{told_text, told_bytes}
use Rattle.meter_log_put.proofs.put_told.Goals as goal

pub decimal-i-requires : goal.decimal-i-requires
decimal-i-requires c = omega (arith, c.requires, digits_64 c.args.number (search rules))

pub put_bytes-j-requires : goal.put_bytes-j-requires
put_bytes-j-requires c =
    let a = c.args in
    let m = digits_64 a.number (search rules) in
    let c1 = c.decimal-i in
    let l : length c1.new.out ≡ length a.out.now = search rules in
    omega (arith, c.requires, m, c1.ensures.0)

pub put_text-k-requires : goal.put_text-k-requires
put_text-k-requires c =
    let a = c.args in
    let m = digits_64 a.number (search rules) in
    let c1 = c.decimal-i in
    let c2 = c.put_bytes-j in
    let l : length c2.new.out ≡ length a.out.now = search rules in
    omega (arith, c.requires, m, c1.ensures.0, c2.ensures.0)

pub put_bytes-requires : goal.put_bytes-requires
put_bytes-requires c =
    let a = c.args in
    let m = digits_64 a.number (search rules) in
    let c1 = c.decimal-i in
    let c2 = c.put_bytes-j in
    let c3 = c.put_text-k in
    let l : length c3.new.out ≡ length a.out.now = search rules in
    omega (arith, c.requires, m, c1.ensures.0, c2.ensures.0, c3.ensures.2)

pub returns : goal.returns
unfolding told_bytes
returns c =
    let a = c.args in
    let m = digits_64 a.number (search rules) in
    let c1 = c.decimal-i in
    let c2 = c.put_bytes-j in
    let c3 = c.put_text-k in
    let c4 = c.put_bytes in
    let w1 : Wrote a.out.now a.at (decimal_of a.number) c1.new.out c1.result = record { place = c1.ensures.0; bytes = c1.ensures.1 } in
    let w2 : Wrote c1.new.out c1.result (32 ∷ []) c2.new.out c2.result = record { place = c2.ensures.0; bytes = c2.ensures.1 } in
    let w3 : Wrote c2.new.out c2.result (told_text a.told) c3.new.out c3.result = record { place = c3.ensures.0; bytes = c3.ensures.1 } in
    let w4 : Wrote c3.new.out c3.result (10 ∷ []) c4.new.out c4.result = record { place = c4.ensures.0; bytes = c4.ensures.1 } in
    let h : a.at ≤ length a.out.now = omega (arith, c.requires) in
    let z = then h (then h (then h w1 w2) w3) w4 in
    (z.place, z.bytes, omega (arith, m, c1.ensures.0, c2.ensures.0, c3.ensures.2, c4.ensures.0))
