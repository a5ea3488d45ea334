-- What each kind of operation makes of a value and answers: which values answer alike, and from where it moves marks.
use Prim.Native.Nat.{ℕ, ◌+◌, ◌-◌, ◌<◌, ◌≤◌}
use mathlib.Core.Path.{◌≡◌, refl, sym, ap, ◌∙◌}
use mathlib.Core.Bool.{Bool, true, false, ◌||◌}
use mathlib.Core.Logic.{◌⊎◌, inl, inr, ⊎_elim}
use native.Mathlib.Decide.{dec_lt}
use native.Mathlib.Omega.{arith}
use borrow.Author.Tests.{eqb-true, eq-eqb, ne_eqb, le-leb, lt-leb}
use lib.Dec.{eqb}
use Rattle.operation.specs.declared.Operation.{Operation}
use Rattle.operation.specs.Operation.{value, failed, value_response}
use Rattle.conflict_marks.specs.Marks.{is_set, is_read, moved_from, SameSpan}
use Rattle.conflict_marks.proofs.Stored.{or_either}

-- A kind that passes one of two tests.
pub one_of : (k a b : ℕ) → (eqb k a || eqb k b) ≡ true → (k ≡ a) ⊎ (k ≡ b)
one_of k a b e = ⊎_elim (λ q. inl (eqb-true k a q)) (λ q. inr (eqb-true k b q)) (or_either (eqb k a) (eqb k b) e)

-- What each kind makes of a value.
pub value_add : (e : Operation) (v : ℕ) → e.kind ≡ 1 → v + e.amount ≤ 255 → value e v ≡ v + e.amount
unfolding value
value_add e v k h = simp (eq-eqb e.kind 1 k, le-leb (v + e.amount) 255 h)

pub value-full : (e : Operation) (v : ℕ) → e.kind ≡ 1 → 255 < v + e.amount → value e v ≡ v
unfolding value
value-full e v k h = simp (eq-eqb e.kind 1 k, lt-leb (v + e.amount) 255 h)

pub value-take : (e : Operation) (v : ℕ) → e.kind ≡ 2 → e.amount ≤ v → value e v ≡ v - e.amount
unfolding value
value-take e v k h = simp (k, le-leb e.amount v h)

pub value-short : (e : Operation) (v : ℕ) → e.kind ≡ 2 → v < e.amount → value e v ≡ v
unfolding value
value-short e v k h = simp (k, lt-leb e.amount v h)

pub value_set : (e : Operation) (v : ℕ) → is_set e ≡ true → value e v ≡ e.amount
unfolding value
value_set e v k = ⊎_elim (λ (q : e.kind ≡ 4). simp q) (λ (q : e.kind ≡ 5). simp q) (one_of e.kind 4 5 k)

pub value_read : (e : Operation) (v : ℕ) → is_read e ≡ true → value e v ≡ v
unfolding value
value_read e v k = ⊎_elim (λ (q : e.kind ≡ 3). simp q) (λ (q : e.kind ≡ 6). simp q) (one_of e.kind 3 6 k)

pub value_other : (e : Operation) (v : ℕ) → (e.kind ≡ 1 → ⊥) → (e.kind ≡ 2 → ⊥) → is_set e ≡ false → value e v ≡ v
unfolding value
value_other e v a b c = simp (ne_eqb e.kind 1 a, ne_eqb e.kind 2 b, c)

-- The response of each kind.
pub response_add : (e : Operation) (v : ℕ) → e.kind ≡ 1 → v + e.amount ≤ 255 → value_response e v ≡ 1
unfolding value_response
response_add e v k h = simp (eq-eqb e.kind 1 k, le-leb (v + e.amount) 255 h)

pub response-full : (e : Operation) (v : ℕ) → e.kind ≡ 1 → 255 < v + e.amount → value_response e v ≡ failed v
unfolding value_response
response-full e v k h = simp (eq-eqb e.kind 1 k, lt-leb (v + e.amount) 255 h)

pub response-take : (e : Operation) (v : ℕ) → e.kind ≡ 2 → e.amount ≤ v → value_response e v ≡ 1
unfolding value_response
response-take e v k h = simp (k, le-leb e.amount v h)

pub response-short : (e : Operation) (v : ℕ) → e.kind ≡ 2 → v < e.amount → value_response e v ≡ failed v
unfolding value_response
response-short e v k h = simp (k, lt-leb e.amount v h)

pub response_read : (e : Operation) (v : ℕ) → e.kind ≡ 3 → value_response e v ≡ v
unfolding value_response
response_read e v k = simp k

pub response_set : (e : Operation) (v : ℕ) → (e.kind ≡ 1 → ⊥) → (e.kind ≡ 2 → ⊥) → (e.kind ≡ 3 → ⊥) → value_response e v ≡ 1
unfolding value_response
response_set e v a b c = simp (ne_eqb e.kind 1 a, ne_eqb e.kind 2 b, ne_eqb e.kind 3 c)

-- Where an add or a take answers as at u, it changes the cell, or leaves it, as at u.
pub fits_too : (e : Operation) (u v : ℕ) → e.kind ≡ 1 → value_response e v ≡ value_response e u → u + e.amount ≤ 255 → v + e.amount ≤ 255
fits_too e u v k q h = go (dec_lt 255 (v + e.amount))
  where
    go : Dec (255 < v + e.amount) → v + e.amount ≤ 255
    go (yes l) = absurd (omega (arith, response-full e v k l, response_add e u k h, q))
    go (no n) = omega arith

pub full_too : (e : Operation) (u v : ℕ) → e.kind ≡ 1 → value_response e v ≡ value_response e u → 255 < u + e.amount → 255 < v + e.amount
full_too e u v k q h = go (dec_lt 255 (v + e.amount))
  where
    go : Dec (255 < v + e.amount) → 255 < v + e.amount
    go (yes l) = l
    go (no n) = absurd (omega (arith, response_add e v k (omega arith), response-full e u k h, q))

pub enough_too : (e : Operation) (u v : ℕ) → e.kind ≡ 2 → value_response e v ≡ value_response e u → e.amount ≤ u → e.amount ≤ v
enough_too e u v k q h = go (dec_lt v e.amount)
  where
    go : Dec (v < e.amount) → e.amount ≤ v
    go (yes l) = absurd (omega (arith, response-short e v k l, response-take e u k h, q))
    go (no n) = omega arith

pub short_too : (e : Operation) (u v : ℕ) → e.kind ≡ 2 → value_response e v ≡ value_response e u → u < e.amount → v < e.amount
short_too e u v k q h = go (dec_lt v e.amount)
  where
    go : Dec (v < e.amount) → v < e.amount
    go (yes l) = l
    go (no n) = absurd (omega (arith, response-take e v k (omega arith), response-short e u k h, q))

-- The span of values with the response of u.
pub span_add : (e : Operation) (u : ℕ) → e.kind ≡ 1 → u + e.amount ≤ 255 → SameSpan e u 0 (256 - e.amount)
span_add e u k h = record {
  low = omega arith;
  high = omega arith;
  same = λ v a b. response_add e v k (omega arith) ∙ sym (response_add e u k h);
  only = λ v l q. (omega arith, omega (arith, fits_too e u v k q h));
}

pub span_take : (e : Operation) (u : ℕ) → e.kind ≡ 2 → e.amount < 256 → e.amount ≤ u → SameSpan e u e.amount 256
span_take e u k s h = record {
  low = omega arith;
  high = omega arith;
  same = λ v a b. response-take e v k a ∙ sym (response-take e u k h);
  only = λ v l q. (enough_too e u v k q h, l);
}

-- Where another value has another response.
span_one : (e : Operation) (u : ℕ) → u < 256 → ((v : ℕ) → value_response e v ≡ value_response e u → v ≡ u) → SameSpan e u u (u + 1)
span_one e u h one = record {
  low = omega arith;
  high = omega arith;
  same = λ v a b. let p : v ≡ u = omega arith in ap (value_response e) p;
  only = λ v l q. let p = one v q in (omega arith, omega arith);
}

pub span_full : (e : Operation) (u : ℕ) → e.kind ≡ 1 → u < 256 → 255 < u + e.amount → SameSpan e u u (u + 1)
span_full e u k s h = span_one e u s (λ v q. omega (arith, response-full e v k (full_too e u v k q h), response-full e u k h, q))

pub span_short : (e : Operation) (u : ℕ) → e.kind ≡ 2 → u < 256 → u < e.amount → SameSpan e u u (u + 1)
span_short e u k s h = span_one e u s (λ v q. omega (arith, response-short e v k (short_too e u v k q h), response-short e u k h, q))

pub span_read : (e : Operation) (u : ℕ) → e.kind ≡ 3 → u < 256 → SameSpan e u u (u + 1)
span_read e u k s = span_one e u s (λ v q. sym (response_read e v k) ∙ q ∙ response_read e u k)

pub span_set : (e : Operation) (u : ℕ) → (e.kind ≡ 1 → ⊥) → (e.kind ≡ 2 → ⊥) → (e.kind ≡ 3 → ⊥) → SameSpan e u 0 256
span_set e u a b c = record {
  low = omega arith;
  high = omega arith;
  same = λ v l h. response_set e v a b c ∙ sym (response_set e u a b c);
  only = λ v l q. (omega arith, l);
}

-- The places from which operations move marks.
pub from_add : (e : Operation) → e.kind ≡ 1 → moved_from e true ≡ 256 - e.amount
unfolding moved_from
from_add e k = simp (eq-eqb e.kind 1 k)

pub from_take : (e : Operation) → e.kind ≡ 2 → moved_from e true ≡ 256 + e.amount
unfolding moved_from
from_take e k = simp k

pub from_none : (e : Operation) → moved_from e false ≡ 256
unfolding moved_from
from_none e = refl

pub from_failed : (e : Operation) (u : ℕ) → moved_from e (eqb (failed u) 1) ≡ 256
from_failed e u = rw (ne_eqb (failed u) 1 (λ q. omega (arith, q))) (from_none e)

pub from_other : (e : Operation) (b : Bool) → (e.kind ≡ 1 → ⊥) → (e.kind ≡ 2 → ⊥) → moved_from e b ≡ 256
unfolding moved_from
from_other e true f g = simp (ne_eqb e.kind 1 f, ne_eqb e.kind 2 g)
from_other e false f g = refl
