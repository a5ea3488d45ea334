use mathlib.Core.List.{◌++◌}
use native.Mathlib.Omega.{arith}
use Rattle.text_put.specs.Datum.{datum}
use Rattle.text_put.proofs.Laws.{Wrote, then}
use Rattle.trial_said.proofs.put_two.Goals as goal

pub returns : goal.returns
returns c =
    let a = c.args in
    let e = c.put_one-i in
    let f = c.put_datum in
    let v : Wrote a.out.now a.at (a.s.now ++ datum a.m) e.new.out e.result = record { place = e.ensures.0; bytes = e.ensures.1 } in
    let w : Wrote e.new.out e.result (datum a.n) f.new.out f.result = record { place = f.ensures.0; bytes = f.ensures.1 } in
    let z = then (omega (arith, c.requires)) v w in
    (z.place, z.bytes, omega (arith, e.ensures, f.ensures.2))
