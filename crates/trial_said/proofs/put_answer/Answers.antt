use Prim.Native.Nat.{ℕ}
use mathlib.Core.List.{List, [], ◌∷◌, ◌++◌}
use native.Mathlib.Omega.{arith}
use mir.Syntax.{w16}
use mir.Val.{to_z, of_z}
use mir.Facts.{to_z-of_z}
use Rattle.text_put.specs.Datum.{datum, signed_datum}
use Rattle.trial_said.specs.Word.{word_bytes}
use Rattle.text_put.proofs.Laws.{Wrote, then}
use Rattle.trial_said.proofs.put_answer.Goals as goal

-- `answer`
abbrev answer_text : List ℕ
answer_text = 97 ∷ 110 ∷ 115 ∷ 119 ∷ 101 ∷ 114 ∷ []

pub returns : goal.returns
unfolding word_bytes
returns c =
    let b = c in
    let a = b.args in
    let e = c.put_one-i in
    let f = c.put_signed in
    let v : Wrote a.out.now a.at (answer_text ++ datum a.place) e.new.out e.result = record { place = e.ensures.0; bytes = e.ensures.1 } in
    let w : Wrote e.new.out e.result (signed_datum (to_z w16 (of_z w16 a.answer))) f.new.out f.result = record { place = f.ensures.0; bytes = f.ensures.1 } in
    let z = then (omega (arith, b.requires)) v (rw (to_z-of_z b.ranges.answer) at w) in
    (z.place, z.bytes, omega (arith, e.ensures, f.ensures.2))
