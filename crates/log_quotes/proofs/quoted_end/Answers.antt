use mathlib.Core.Bool.{true}
use mathlib.Core.Path.{refl}
use native.Mathlib.Omega.{arith}
use borrow.Author.Rules.{rules}
use Rattle.log_quotes.specs.Quotes.{inside, may_end}
use Rattle.log_quotes.proofs.Laws.{way_start, way_end, inside_end, quote_within, quote_closes, closed-within, closed_stop, closed-broken, closed_more}
use Rattle.log_quotes.proofs.quoted_end.Goals as goal

pub loop-a-init : goal.loop-a-init
loop-a-init c = way_start inside _ _ c.requires

pub returns-then-q-s : goal.returns-then-q-s
returns-then-q-s c = inside_end c.loop-a.invariant c.find-q.ensures c.if-q-s.true

pub overflow_add-c : goal.overflow_add-c
overflow_add-c c = let q = quote_within c.loop-a.invariant c.find-q.ensures c.if-q-s.false in search rules

pub returns-then-c-s : goal.returns-then-c-s
unfolding may_end
returns-then-c-s c = way_end (quote_closes c.loop-a.invariant c.find-q.ensures c.if-q-s.false) true (omega (arith, c.if-c-s.true)) refl

pub bounds-s-c : goal.bounds-s-c
bounds-s-c c = let k = closed-within (quote_closes c.loop-a.invariant c.find-q.ensures c.if-q-s.false) c.if-c-s.false in search rules

pub returns-then-at_comma : goal.returns-then-at_comma
returns-then-at_comma c = closed_stop (quote_closes c.loop-a.invariant c.find-q.ensures c.if-q-s.false) (closed-within (quote_closes c.loop-a.invariant c.find-q.ensures c.if-q-s.false) c.if-c-s.false) c.if-at_comma.true

pub bounds-s-c-in-loop-a : goal.bounds-s-c-in-loop-a
bounds-s-c-in-loop-a c = let k = closed-within (quote_closes c.loop-a.invariant c.find-q.ensures c.if-q-s.false) c.if-c-s.false in search rules

pub returns-then-s-c-ne34 : goal.returns-then-s-c-ne34
returns-then-s-c-ne34 c = closed-broken (quote_closes c.loop-a.invariant c.find-q.ensures c.if-q-s.false) (closed-within (quote_closes c.loop-a.invariant c.find-q.ensures c.if-q-s.false) c.if-c-s.false) c.if-at_comma.false c.if-s-c-ne34.true

pub overflow_add-i : goal.overflow_add-i
overflow_add-i c = let k = closed-within (quote_closes c.loop-a.invariant c.find-q.ensures c.if-q-s.false) c.if-c-s.false in search rules

pub loop-a-smaller : goal.loop-a-smaller
loop-a-smaller c = let k = closed-within (quote_closes c.loop-a.invariant c.find-q.ensures c.if-q-s.false) c.if-c-s.false in omega (arith, k, c.find-q.ensures)

pub loop-a-preserved : goal.loop-a-preserved
loop-a-preserved c = closed_more (quote_closes c.loop-a.invariant c.find-q.ensures c.if-q-s.false) (closed-within (quote_closes c.loop-a.invariant c.find-q.ensures c.if-q-s.false) c.if-c-s.false) c.if-s-c-ne34.false
