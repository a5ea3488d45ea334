use borrow.Author.Rules.{rules}
use native.Mathlib.Omega.{arith}
use Rattle.text_hex.proofs.Pairs.{value_none, value_is, value_digit, took-high, took-low, took_through, took_more}
use Rattle.text_hex.proofs.unhex.Goals as goal

pub returns-in_default : goal.returns-in_default
returns-in_default c = took-high c.loop-i.invariant.1 (omega (arith, c.loop-i-test.true, c.min-n.ensures)) (value_none _ c.in_default.ensures)

pub returns-in_default-hex_value : goal.returns-in_default-hex_value
returns-in_default-hex_value c =
    took-low c.loop-i.invariant.1 (omega (arith, c.loop-i-test.true, c.min-n.ensures)) (value_none _ c.in_default-hex_value.ensures)

pub overflow_mul-out : goal.overflow_mul-out
overflow_mul-out c = omega (arith, value_is _ c.in-Some.ensures, value_digit _ c.in-Some.ensures)

pub overflow_add-out : goal.overflow_add-out
overflow_add-out c =
    let a = c.in-Some.ensures in
    let b = c.in-Some-hex_value.ensures in
    omega (arith, value_is _ a, value_digit _ a, value_is _ b, value_digit _ b)

pub loop-i-preserved : goal.loop-i-preserved
loop-i-preserved c =
    let k = c.loop-i in
    let a = c.in-Some.ensures in
    let b = c.in-Some-hex_value.ensures in
    let m =
    took_more k.invariant.1 (omega (arith, c.loop-i-test.true, c.min-n.ensures)) (omega (arith, c.loop-i-test.true, c.min-n.ensures)) (value_digit _ a) (value_digit _ b) in
    (search rules, rw (value_is _ a, value_is _ b) m)

pub returns : goal.returns
returns c = took_through c.loop-i.invariant.1 _ c.min-n.ensures c.loop-i.auto.i-end c.loop-i-test.false
