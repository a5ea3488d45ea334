use borrow.Author.Rules.{rules}
use native.Mathlib.Omega.{arith}
use Rattle.trial_said.specs.Word.{word_bytes}
use Rattle.trial_said.proofs.Laws.{said_is}
use Rattle.trial_said.proofs.put_said.Goals as goal

pub returns-in-Placed : goal.returns-in-Placed
unfolding word_bytes
returns-in-Placed c =
    let e = c.put_one.ensures in
    said_is _ _ _ _ _ _ c.in-Placed.is e.0 e.1 (omega (arith, e.2))

pub returns-in-Answer : goal.returns-in-Answer
returns-in-Answer c = search rules

pub returns-in-Aside : goal.returns-in-Aside
unfolding word_bytes
returns-in-Aside c =
    let e = c.put_one-in-Aside.ensures in
    said_is _ _ _ _ _ _ c.in-Aside.is e.0 e.1 (omega (arith, e.2))

pub returns-in-Confirm : goal.returns-in-Confirm
unfolding word_bytes
returns-in-Confirm c =
    let e = c.put_two.ensures in
    said_is _ _ _ _ _ _ c.in-Confirm.is e.0 e.1 (omega (arith, e.2))

pub returns-in-Empty : goal.returns-in-Empty
unfolding word_bytes
returns-in-Empty c =
    let e = c.put_bytes.ensures in
    said_is _ _ _ _ _ _ c.in-Empty.is e.0 e.1 (omega (arith, e.0))

pub returns-in-No : goal.returns-in-No
unfolding word_bytes
returns-in-No c =
    let e = c.put_one-in-No.ensures in
    said_is _ _ _ _ _ _ c.in-No.is e.0 e.1 (omega (arith, e.2))

pub returns-in-Halt : goal.returns-in-Halt
unfolding word_bytes
returns-in-Halt c =
    let e = c.put_one-in-Halt.ensures in
    said_is _ _ _ _ _ _ c.in-Halt.is e.0 e.1 (omega (arith, e.2))

pub returns-in-Bad : goal.returns-in-Bad
unfolding word_bytes
returns-in-Bad c =
    let e = c.put_bytes-in-Bad.ensures in
    said_is _ _ _ _ _ _ c.in-Bad.is e.0 e.1 (omega (arith, e.0))

pub returns-in-Full : goal.returns-in-Full
unfolding word_bytes
returns-in-Full c =
    let e = c.put_bytes-in-Full.ensures in
    said_is _ _ _ _ _ _ c.in-Full.is e.0 e.1 (omega (arith, e.0))
