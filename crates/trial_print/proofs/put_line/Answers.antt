use Prim.Native.Nat.{◌≤◌}
use mathlib.Core.Path.{◌≡◌}
use mathlib.Core.List.{[], ◌∷◌}
use native.Mathlib.Omega.{arith}
use lib.ListN.{length}
use Rattle.text.specs.Text.{decimal_of}
use Rattle.text_put.specs.Datum.{datum}
use Rattle.trial_said.specs.Word.{word_of, word_bytes}
use Rattle.trial_print.specs.Line.{line_bytes}
use Rattle.text_put.proofs.Laws.{Wrote, then, digits_64}
use borrow.Author.Rules.{rules}
use Rattle.trial_print.proofs.put_line.Goals as goal

pub decimal-i-requires : goal.decimal-i-requires
decimal-i-requires c =
    let a = c.args in
    let pre = c.requires in
    let m = digits_64 a.number (search rules) in
    omega (arith, pre, m)

pub put_datum-j-requires : goal.put_datum-j-requires
put_datum-j-requires c =
    let a = c.args in
    let pre = c.requires in
    let m = digits_64 a.number (search rules) in
    let c1 = c.decimal-i in
    let l : length c1.new.out ≡ length a.out.now = search rules in
    omega (arith, pre, m, c1.ensures.0)

pub put_bytes-k-requires : goal.put_bytes-k-requires
put_bytes-k-requires c =
    let a = c.args in
    let pre = c.requires in
    let m = digits_64 a.number (search rules) in
    let c1 = c.decimal-i in
    let c2 = c.put_datum-j in
    let l : length c2.new.out ≡ length a.out.now = search rules in
    omega (arith, pre, m, c1.ensures.0, c2.ensures.2)

pub put_said-l-requires : goal.put_said-l-requires
put_said-l-requires c =
    let a = c.args in
    let pre = c.requires in
    let m = digits_64 a.number (search rules) in
    let c1 = c.decimal-i in
    let c2 = c.put_datum-j in
    let c3 = c.put_bytes-k in
    let l : length c3.new.out ≡ length a.out.now = search rules in
    omega (arith, pre, m, c1.ensures.0, c2.ensures.2, c3.ensures.0)

pub put_bytes-requires : goal.put_bytes-requires
put_bytes-requires c =
    let a = c.args in
    let pre = c.requires in
    let m = digits_64 a.number (search rules) in
    let c1 = c.decimal-i in
    let c2 = c.put_datum-j in
    let c3 = c.put_bytes-k in
    let c4 = c.put_said-l in
    let l : length c4.new.out ≡ length a.out.now = search rules in
    omega (arith, pre, m, c1.ensures.0, c2.ensures.2, c3.ensures.0, c4.ensures.2)

pub returns : goal.returns
unfolding line_bytes
returns c =
    let a = c.args in
    let pre = c.requires in
    let m = digits_64 a.number (search rules) in
    let c1 = c.decimal-i in
    let c2 = c.put_datum-j in
    let c3 = c.put_bytes-k in
    let c4 = c.put_said-l in
    let c5 = c.put_bytes in
    let w1 : Wrote a.out.now a.at (decimal_of a.number) c1.new.out c1.result = record { place = c1.ensures.0; bytes = c1.ensures.1 } in
    let w2 : Wrote c1.new.out c1.result (datum a.van) c2.new.out c2.result = record { place = c2.ensures.0; bytes = c2.ensures.1 } in
    let w3 : Wrote c2.new.out c2.result (32 ∷ []) c3.new.out c3.result = record { place = c3.ensures.0; bytes = c3.ensures.1 } in
    let w4 : Wrote c3.new.out c3.result (word_bytes (word_of a.said)) c4.new.out c4.result = record { place = c4.ensures.0; bytes = c4.ensures.1 } in
    let w5 : Wrote c4.new.out c4.result (10 ∷ []) c5.new.out c5.result = record { place = c5.ensures.0; bytes = c5.ensures.1 } in
    let h : a.at ≤ length a.out.now = omega (arith, pre) in
    let z = then h (then h (then h (then h w1 w2) w3) w4) w5 in
    (z.place, z.bytes, omega (arith, m, c1.ensures.0, c2.ensures.2, c3.ensures.0, c4.ensures.2, c5.ensures.0))
