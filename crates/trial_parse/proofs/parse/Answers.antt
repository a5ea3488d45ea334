use mathlib.Core.Path.{◌∙◌}
use native.Mathlib.Omega.{arith}
use Rattle.trial_words.specs.Words.{from_words}
use Rattle.text.proofs.Cuts.{cut-start, cut_more, cut_last}
use Rattle.trial_parse.proofs.Laws.{asks, asks_six}
use Rattle.trial_parse.proofs.parse.Goals as goal

pub returns-then-a-n : goal.returns-then-a-n
unfolding from_words
returns-then-a-n c =
    let line = c.args.line.now in
    let k0 = cut-start 32 line in
    asks line (cut_last k0 c.find-a.result c.find-a.ensures c.if-a-n.true)

pub overflow_add-a : goal.overflow_add-a
overflow_add-a c =
    let line = c.args.line.now in
    let k0 = cut-start 32 line in
    let k1 = cut_more k0 c.find-a.result c.find-a.ensures c.if-a-n.false in
    record { fits = omega (arith, k1.within, c.well_formed.0.0) }

pub returns-then-b-n : goal.returns-then-b-n
returns-then-b-n c =
    let line = c.args.line.now in
    let k0 = cut-start 32 line in
    let k1 = cut_more k0 c.find-a.result c.find-a.ensures c.if-a-n.false in
    c.deliver_of.ensures ∙ asks line (cut_last k1 c.find-b.result c.find-b.ensures c.if-b-n.true)

pub overflow_add-b : goal.overflow_add-b
overflow_add-b c =
    let line = c.args.line.now in
    let k0 = cut-start 32 line in
    let k1 = cut_more k0 c.find-a.result c.find-a.ensures c.if-a-n.false in
    let k2 = cut_more k1 c.find-b.result c.find-b.ensures c.if-b-n.false in
    record { fits = omega (arith, k2.within, c.well_formed.0.0) }

pub returns-then-c-n : goal.returns-then-c-n
unfolding from_words
returns-then-c-n c =
    let line = c.args.line.now in
    let k0 = cut-start 32 line in
    let k1 = cut_more k0 c.find-a.result c.find-a.ensures c.if-a-n.false in
    let k2 = cut_more k1 c.find-b.result c.find-b.ensures c.if-b-n.false in
    asks line (cut_last k2 c.find-c.result c.find-c.ensures c.if-c-n.true)

pub overflow_add-c : goal.overflow_add-c
overflow_add-c c =
    let line = c.args.line.now in
    let k0 = cut-start 32 line in
    let k1 = cut_more k0 c.find-a.result c.find-a.ensures c.if-a-n.false in
    let k2 = cut_more k1 c.find-b.result c.find-b.ensures c.if-b-n.false in
    let k3 = cut_more k2 c.find-c.result c.find-c.ensures c.if-c-n.false in
    record { fits = omega (arith, k3.within, c.well_formed.0.0) }

pub returns-then-d-n : goal.returns-then-d-n
unfolding from_words
returns-then-d-n c =
    let line = c.args.line.now in
    let k0 = cut-start 32 line in
    let k1 = cut_more k0 c.find-a.result c.find-a.ensures c.if-a-n.false in
    let k2 = cut_more k1 c.find-b.result c.find-b.ensures c.if-b-n.false in
    let k3 = cut_more k2 c.find-c.result c.find-c.ensures c.if-c-n.false in
    asks line (cut_last k3 c.find-d.result c.find-d.ensures c.if-d-n.true)

pub overflow_add-d : goal.overflow_add-d
overflow_add-d c =
    let line = c.args.line.now in
    let k0 = cut-start 32 line in
    let k1 = cut_more k0 c.find-a.result c.find-a.ensures c.if-a-n.false in
    let k2 = cut_more k1 c.find-b.result c.find-b.ensures c.if-b-n.false in
    let k3 = cut_more k2 c.find-c.result c.find-c.ensures c.if-c-n.false in
    let k4 = cut_more k3 c.find-d.result c.find-d.ensures c.if-d-n.false in
    record { fits = omega (arith, k4.within, c.well_formed.0.0) }

pub returns-then-e-n : goal.returns-then-e-n
returns-then-e-n c =
    let line = c.args.line.now in
    let k0 = cut-start 32 line in
    let k1 = cut_more k0 c.find-a.result c.find-a.ensures c.if-a-n.false in
    let k2 = cut_more k1 c.find-b.result c.find-b.ensures c.if-b-n.false in
    let k3 = cut_more k2 c.find-c.result c.find-c.ensures c.if-c-n.false in
    let k4 = cut_more k3 c.find-d.result c.find-d.ensures c.if-d-n.false in
    let k5 = cut_more k4 c.find-e.result c.find-e.ensures c.if-e-n.true in
    asks_six k5

pub returns : goal.returns
returns c =
    let line = c.args.line.now in
    let k0 = cut-start 32 line in
    let k1 = cut_more k0 c.find-a.result c.find-a.ensures c.if-a-n.false in
    let k2 = cut_more k1 c.find-b.result c.find-b.ensures c.if-b-n.false in
    let k3 = cut_more k2 c.find-c.result c.find-c.ensures c.if-c-n.false in
    let k4 = cut_more k3 c.find-d.result c.find-d.ensures c.if-d-n.false in
    c.invoke_of.ensures ∙ asks line (cut_last k4 c.find-e.result c.find-e.ensures c.if-e-n.false)
