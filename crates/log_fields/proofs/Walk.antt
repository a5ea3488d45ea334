-- Laws of the walks from field to field: what is kept is over the fields from the next start on. Assumes nothing.
use Prim.Native.Nat.{ℕ, suc, ◌+◌, ◌-◌, ◌<◌, ◌≤◌}
use mathlib.Core.Path.{◌≡◌, refl, sym, ap, ◌∙◌}
use mathlib.Core.List.{List, [], ◌∷◌}
use mathlib.Core.Bool.{true, false}
use native.Mathlib.Omega.{arith}
use lib.ListN.{length, get_or, take, drop, drop_of_length-le, length-drop}
use lib.Seq.{length-take-le}
use borrow.Author.Tests.{eq-eqb, ne_eqb}
use Rattle.text.proofs.Laws.{either}
use Rattle.log_quotes.specs.declared.FieldEnd.{FieldEnd}
use Rattle.log_quotes.specs.Quotes.{start, fields, sound, split, field_count, later_sound, EndsAt}
use Rattle.log_quotes.proofs.Walk.{parts_last, parts_next, split-some}
use Rattle.log_fields.specs.Places.{start_in, part_in, part_of, StartsAt}
use Rattle.log_fields.proofs.Places.{start-cons, part_none, part_some}

-- what a walk over all fields keeps: n of them lie before a
pub record Counted (s : List ℕ) (a n : ℕ) : Type 0 where
  pub within : a ≤ length s
  pub few : n ≤ a
  pub quoting : sound s ≡ sound (drop a s)
  pub number : length (fields s) ≡ n + length (fields (drop a s))
  pub ahead : (k : ℕ) → get_or (fields s) (n + k) [] ≡ get_or (fields (drop a s)) k []

pub counted_none : (s : List ℕ) → Counted s 0 0
counted_none s =
    record { within = omega arith; few = omega arith; quoting = refl; number = omega arith; ahead = λ k. let e : 0 + k ≡ k = omega arith in rw e }

module _ {s : List ℕ} {a : ℕ} {r : FieldEnd} (w : EndsAt start s a r) where
  abbrev here : List ℕ
  here = take (r.end - a) (drop a s)

  here_length : length here ≡ r.end - a
  here_length = let l = w.low in let h = w.high in length-take-le (r.end - a) (drop a s) (simp length-drop (omega arith))

  -- counting
  pub counted_not : {n : ℕ} → Counted s a n → r.sound ≡ false → sound s ≡ false
  counted_not k h = k.quoting ∙ w.quoting ∙ rw h

  pub counted_unsound : {n : ℕ} → Counted s a n → r.sound ≡ false → 0 ≡ field_count s
  unfolding field_count
  counted_unsound k h = let e = counted_not k h in rw e

  pub counted-sound : {n : ℕ} → Counted s a n → r.sound ≡ true → r.end ≡ length s → (sound s ≡ true) × (n + 1 ≡ length (fields s))
  unfolding later_sound
  counted-sound k h g = (k.quoting ∙ w.quoting ∙ rw (h, eq-eqb r.end (length s) g), sym (k.number ∙ rw (parts_last w g)))

  pub counted_last : {n : ℕ} → Counted s a n → r.sound ≡ true → r.end ≡ length s → n + 1 ≡ field_count s
  unfolding field_count
  counted_last k h g = let e = counted-sound k h g in rw e.0 e.1

  pub counted_next : {n : ℕ} → Counted s a n → r.sound ≡ true → (r.end ≡ length s → ⊥) → Counted s (r.end + 1) (n + 1)
  unfolding later_sound
  counted_next {n} k h g =
      record {
        within = omega (arith, w.high, g);
        few = omega (arith, k.few, w.low);
        quoting = k.quoting ∙ w.quoting ∙ rw (h, ne_eqb r.end (length s) g);
        number = k.number ∙ rw (parts_next w g) (omega arith);
        ahead = λ i. let e : n + 1 + i ≡ n + suc i = omega arith in rw e (k.ahead (suc i) ∙ rw (parts_next w g));
      }

  -- the field at hand is number n
  pub counted_here : {n : ℕ} → Counted s a n → get_or (fields s) n [] ≡ here
  counted_here {n} k = let e : n + 0 ≡ n = omega arith in rw e at (k.ahead 0) ∙ rw w.parts

-- ---- where field k starts
-- what the walk to it keeps: at a, field j is at hand
pub record Towards (s : List ℕ) (k a j : ℕ) : Type 0 where
  pub within : a ≤ length s
  pub most : j ≤ k
  pub field : get_or (fields s) k [] ≡ get_or (fields (drop a s)) (k - j) []
  pub place : start_in (fields s) k ≡ a + start_in (fields (drop a s)) (k - j)

pub towards_none : (s : List ℕ) (k : ℕ) → Towards s k 0 0
towards_none s k = let z : k - 0 ≡ k = omega arith in record { within = omega arith; most = omega arith; field = rw z; place = rw z (omega arith) }

pub towards_done : {s : List ℕ} {k a j : ℕ} → Towards s k a j → k ≤ j → StartsAt s k a
unfolding start_in
towards_done {s} {k} {a} {j} t h =
    let m = t.most in
    let z : k - j ≡ 0 = omega arith in
    let p : start_in (fields s) k ≡ a + 0 = t.place ∙ rw z in
    record { high = t.within; place = omega (arith, p); first = t.field ∙ rw z }

module _ {s : List ℕ} {k a j : ℕ} (t : Towards s k a j) (l : j < k) {r : FieldEnd} (w : EndsAt start s a r) where
  left : k - j ≡ suc (k - (j + 1))
  left = omega arith

  pub towards_next : (r.end ≡ length s → ⊥) → Towards s k (r.end + 1) (j + 1)
  towards_next h =
      let n = start-cons (take (r.end - a) (drop a s)) (fields (drop (r.end + 1) s)) (k - (j + 1)) (split-some start (drop (r.end + 1) s)) in
      let p : start_in (fields s) k ≡ a + start_in (take (r.end - a) (drop a s) ∷ fields (drop (r.end + 1) s)) (suc (k - (j + 1))) = t.place ∙ rw (left, parts_next w h) in
      record {
        within = omega (arith, w.high, h);
        most = omega arith;
        field = t.field ∙ rw (left, parts_next w h);
        place = omega (arith, p, n, here_length w, w.low);
      }

  -- there is no such field
  pub towards_absent : r.end ≡ length s → StartsAt s k r.end
  unfolding split start_in
  towards_absent h =
      let z : length s ≤ r.end = omega (arith, h) in
      let p : start_in (fields s) k ≡ a + length (take (r.end - a) (drop a s)) = t.place ∙ rw (left, parts_last w h) in
      record {
        high = w.high;
        place = omega (arith, p, here_length w, w.low);
        first = t.field ∙ rw (left, parts_last w h, drop_of_length-le s z);
      }

-- and where it ends
pub part_found : {s : List ℕ} {k a : ℕ} {r : FieldEnd} → StartsAt s k a → EndsAt start s a r → record { start = a; end = r.end } ≡ part_in s k
part_found {s} {k} {a} {r} t w =
    let f : get_or (fields s) k [] ≡ take (r.end - a) (drop a s) = t.first ∙ rw w.parts in
    let n : r.end ≡ a + length (get_or (fields s) k []) = rw f (omega (arith, here_length w, w.low)) in
    let e : a ≡ start_in (fields s) k = t.place in
    ap (λ (x : ℕ). record { start = a; end = x }) n ∙ ap (λ (x : ℕ). record { start = x; end = x + length (get_or (fields s) k []) }) e

-- ---- the public finder, from the count of the fields
module _ (l m : List ℕ) (k n : ℕ) (e : l ≡ m) (h : n ≡ field_count l) where
  pub found_none : n ≡ 0 → record { start = 0; end = 0 } ≡ part_of m k
  unfolding field_count
  found_none z = either (sound l) (λ t. absurd (omega (arith, split-some start l, z, rw t at h))) (λ t. rw (← e) (part_none l k t))

  pub found_some : (n ≡ 0 → ⊥) → part_in l k ≡ part_of m k
  unfolding field_count
  found_some z = either (sound l) (λ t. rw (← e) (part_some l k t)) (λ t. absurd (z (rw t at h)))
