-- A field under way: the definitions of specs/Quotes.antt one byte further, for the loops that find its end. Assumes nothing.
use Prim.Native.Nat.{ℕ, zero, suc, ◌+◌, ◌-◌, ◌<◌, ◌≤◌}
use mathlib.Core.Path.{◌≡◌, refl, sym, ap, ◌∙◌}
use mathlib.Core.List.{List, [], ◌∷◌, ◌++◌, append-nil}
use mathlib.Core.Bool.{Bool, true, false, and-true, and-false}
use native.Mathlib.Numerals.{add-one}
use native.Mathlib.Nat.{sub_self}
use native.Mathlib.Omega.{arith}
use lib.ListN.{length, get_or, take, drop, drop_of_length-le, length-drop}
use lib.Dec.{eqb, leb}
use lib.Seq.{drop-cons, take-suc, get_or-drop, append_snoc, take_all}
use borrow.Author.Tests.{eq-eqb, ne_eqb, eqb-true, eqb-false, leb-true, leb-false}
use Rattle.text.specs.Text.{place_of}
use Rattle.text.proofs.Laws.{either, place_stop, place_go, place_end}
use Rattle.text.proofs.Parts.{part_join}
use Rattle.log_quotes.specs.declared.FieldEnd.{FieldEnd}
use Rattle.log_quotes.specs.Quotes.{Quoting, start, plain, inside, closed, broken, by_mark, move, next_quoting, may_end, separates, in_first, split, fields, sound_from, later, later_sound, EndsAt}

-- ---- a byte at an index
module _ (q : Quoting) (s : List ℕ) (i : ℕ) where
  sound_go : i < length s → sound_from q (drop i s) ≡ sound_from (next_quoting q (get_or s i 0)) (drop (i + 1) s)
  unfolding sound_from
  sound_go h = rw (add-one, drop-cons s i 0 h)

  sound_end : length s ≤ i → sound_from q (drop i s) ≡ may_end q
  unfolding sound_from
  sound_end h = rw (drop_of_length-le s h)

  split_stop : i < length s → separates q (get_or s i 0) ≡ true → split q (drop i s) ≡ [] ∷ fields (drop (i + 1) s)
  unfolding split
  split_stop h e = rw (add-one, drop-cons s i 0 h, e)

  split_go : i < length s → separates q (get_or s i 0) ≡ false → split q (drop i s) ≡ in_first (get_or s i 0) (split (next_quoting q (get_or s i 0)) (drop (i + 1) s))
  unfolding split
  split_go h e = rw (add-one, drop-cons s i 0 h, e)

  split_end : length s ≤ i → split q (drop i s) ≡ [] ∷ []
  unfolding split
  split_end h = rw (drop_of_length-le s h)

-- ---- bytes more at the front of the first field
unfoldable pub front : List ℕ → List (List ℕ) → List (List ℕ)
front p [] = []
front p (f ∷ fs) = (p ++ f) ∷ fs

front_nil : (fs : List (List ℕ)) → front [] fs ≡ fs
unfolding front
front_nil [] = refl
front_nil (f ∷ fs) = refl

front_in : (p : List ℕ) (b : ℕ) (fs : List (List ℕ)) → front p (in_first b fs) ≡ front (p ++ (b ∷ [])) fs
unfolding front in_first
front_in p b [] = refl
front_in p b (f ∷ fs) = rw (append_snoc p b f)

piece_more : (s : List ℕ) (a i : ℕ) → a ≤ i → i < length s → take (i + 1 - a) (drop a s) ≡ take (i - a) (drop a s) ++ (get_or s i 0 ∷ [])
piece_more s a i g h =
    let e : i + 1 - a ≡ suc (i - a) = omega arith in
    let k : i - a < length (drop a s) = simp length-drop (omega arith) in
    let j : a + (i - a) ≡ i = omega arith in
    rw (e, take-suc (drop a s) (i - a) 0 k, get_or-drop a s (i - a) 0, j)

-- after an unsound quote, all the rest is one field, and unsound
broken-split : (l : List ℕ) → split broken l ≡ l ∷ []
unfolding split in_first may_end move
broken-split [] = refl
broken-split (b ∷ l) = rw (and-false (eqb b 44), broken-split l)

broken-sound : (l : List ℕ) → sound_from broken l ≡ false
unfolding sound_from may_end move
broken-sound [] = refl
broken-sound (b ∷ l) = broken-sound l

broken-ends : (s : List ℕ) (i : ℕ) → i ≤ length s → EndsAt broken s i (record { end = length s; sound = false })
unfolding later
broken-ends s i h =
    let n = eq-eqb (length s) (length s) refl in
    let t = take_all (length s - i) (drop i s) (simp length-drop (omega arith)) in
    record { low = h; high = omega arith; parts = broken-split (drop i s) ∙ rw (n, t); quoting = broken-sound (drop i s) }

-- ---- what the loops keep: from a, at p, the field goes on to i, at q
pub record Way (p : Quoting) (s : List ℕ) (a i : ℕ) (q : Quoting) : Type 0 where
  pub low : a ≤ i
  pub high : i ≤ length s
  pub parts : split p (drop a s) ≡ front (take (i - a) (drop a s)) (split q (drop i s))
  pub quoting : sound_from p (drop a s) ≡ sound_from q (drop i s)

pub way_start : (p : Quoting) (s : List ℕ) (a : ℕ) → a ≤ length s → Way p s a a p
way_start p s a h = record { low = omega arith; high = h; parts = rw (sub_self a) (sym (front_nil (split p (drop a s)))); quoting = refl }

module _ {p : Quoting} {s : List ℕ} {a i : ℕ} {q : Quoting} (w : Way p s a i q) where
  pub way_more : (r : Quoting) → i < length s → separates q (get_or s i 0) ≡ false → next_quoting q (get_or s i 0) ≡ r → Way p s a (i + 1) r
  way_more r h e t =
      record {
        low = omega (arith, w.low);
        high = omega (arith, h);
        parts =
            w.parts
            ∙ ap (front (take (i - a) (drop a s))) (split_go q s i h e)
            ∙ front_in (take (i - a) (drop a s)) (get_or s i 0) (split (next_quoting q (get_or s i 0)) (drop (i + 1) s))
            ∙ ap (λ (z : List ℕ). front z (split (next_quoting q (get_or s i 0)) (drop (i + 1) s))) (sym (piece_more s a i w.low h))
            ∙ ap (λ (z : Quoting). front (take (i + 1 - a) (drop a s)) (split z (drop (i + 1) s))) t;
        quoting = w.quoting ∙ sound_go q s i h ∙ ap (λ (z : Quoting). sound_from z (drop (i + 1) s)) t;
      }

  -- at a separator
  pub way_stop : i < length s → separates q (get_or s i 0) ≡ true → next_quoting q (get_or s i 0) ≡ start → EndsAt p s a (record { end = i; sound = true })
  unfolding front later later_sound
  way_stop h e t =
      let n = ne_eqb i (length s) (λ z. omega (arith, z, h)) in
      record {
        low = w.low;
        high = w.high;
        parts = w.parts ∙ rw (split_stop q s i h e, append-nil (take (i - a) (drop a s)), n);
        quoting = w.quoting ∙ sound_go q s i h ∙ rw (n, t);
      }

  -- at the end of the line
  pub way_end : (ok : Bool) → length s ≤ i → may_end q ≡ ok → EndsAt p s a (record { end = i; sound = ok })
  unfolding front later later_sound
  way_end ok h e =
      let n = eq-eqb i (length s) (omega (arith, h, w.high)) in
      record {
        low = w.low;
        high = w.high;
        parts = w.parts ∙ rw (split_end q s i h, append-nil (take (i - a) (drop a s)), n);
        quoting = w.quoting ∙ sound_end q s i h ∙ rw (n, e) (sym (and-true ok));
      }

  -- and where the rest of the field ends
  pub way_join : {r : FieldEnd} → EndsAt q s i r → EndsAt p s a r
  unfolding front
  way_join {r} k =
      record {
        low = omega (arith, w.low, k.low);
        high = k.high;
        parts =
            w.parts
            ∙ ap (front (take (i - a) (drop a s))) k.parts
            ∙ ap (λ (z : List ℕ). z ∷ later s r.end) (part_join s a i r.end w.low k.low k.high);
        quoting = w.quoting ∙ k.quoting;
      }

-- ---- by the byte at i
inside_either : (c : Bool) → by_mark false c closed inside inside ≡ inside
unfolding by_mark
inside_either true = refl
inside_either false = refl

module _ {p : Quoting} {s : List ℕ} {a i : ℕ} (w : Way p s a i plain) (h : i < length s) where
  pub plain_stop : get_or s i 0 ≡ 44 → EndsAt p s a (record { end = i; sound = true })
  unfolding move by_mark may_end
  plain_stop e = way_stop w h (rw e) (rw e)

  pub plain-broken : get_or s i 0 ≡ 34 → EndsAt p s a (record { end = length s; sound = false })
  unfolding move by_mark may_end
  plain-broken e = way_join (way_more w broken h (rw e) (rw e)) (broken-ends s (i + 1) (omega (arith, h)))

  pub plain_more : (get_or s i 0 ≡ 44 → ⊥) → (get_or s i 0 ≡ 34 → ⊥) → Way p s a (i + 1) plain
  unfolding move by_mark
  plain_more e g = way_more w plain h (rw (ne_eqb _ _ e)) (rw (ne_eqb _ _ e, ne_eqb _ _ g))

module _ {p : Quoting} {s : List ℕ} {a i : ℕ} (w : Way p s a i inside) (h : i < length s) where
  pub inside_quote : get_or s i 0 ≡ 34 → Way p s a (i + 1) closed
  unfolding move by_mark may_end
  inside_quote e = way_more w closed h (rw e) (rw e)

  pub inside_more : (get_or s i 0 ≡ 34 → ⊥) → Way p s a (i + 1) inside
  unfolding move may_end
  inside_more e = way_more w inside h (and-false (eqb (get_or s i 0) 44)) (rw (ne_eqb _ _ e) (inside_either (eqb (get_or s i 0) 44)))

pub closed-within : {p : Quoting} {s : List ℕ} {a i : ℕ} → Way p s a i closed → (i ≡ length s → ⊥) → i < length s
closed-within w h = omega (arith, w.high, h)

module _ {p : Quoting} {s : List ℕ} {a i : ℕ} (w : Way p s a i closed) (h : i < length s) where
  pub closed_stop : get_or s i 0 ≡ 44 → EndsAt p s a (record { end = i; sound = true })
  unfolding move by_mark may_end
  closed_stop e = way_stop w h (rw e) (rw e)

  pub closed_more : get_or s i 0 ≡ 34 → Way p s a (i + 1) inside
  unfolding move by_mark may_end
  closed_more e = way_more w inside h (rw e) (rw e)

  pub closed-broken : (get_or s i 0 ≡ 44 → ⊥) → (get_or s i 0 ≡ 34 → ⊥) → EndsAt p s a (record { end = length s; sound = false })
  unfolding move by_mark
  closed-broken e g = way_join (way_more w broken h (rw (ne_eqb _ _ e)) (rw (ne_eqb _ _ e, ne_eqb _ _ g))) (broken-ends s (i + 1) (omega (arith, h)))

place_found : (x : ℕ) (l : List ℕ) → place_of x l < length l → get_or l (place_of x l) 0 ≡ x
unfolding place_of
place_found x [] h = absurd (omega (arith, h))
place_found x (b ∷ l) h =
    either (eqb b x)
    (λ e. rw e (eqb-true b x e))
    (λ e. rw e (place_found x l (let z : suc (place_of x l) < suc (length l) = rw e at h in omega (arith, z))))

-- from i to the next quote, or to the end of the line where there is none
quote_found : (s : List ℕ) (i q : ℕ) → q ≡ i + place_of 34 (drop i s) → q < length s → get_or s q 0 ≡ 34
quote_found s i q e h = let d = place_found 34 (drop i s) (simp length-drop (omega (arith, e, h))) in rw (e, ← get_or-drop i s (place_of 34 (drop i s)) 0) d

inside_run : {p : Quoting} {s : List ℕ} {a : ℕ} (n i : ℕ) → Way p s a i inside → place_of 34 (drop i s) ≡ n → Way p s a (i + n) inside
inside_run {p} {s} {a} zero i w e = let z : i + 0 ≡ i = omega arith in rw z w
inside_run {p} {s} {a} (suc n) i w e =
    either (leb (length s) i)
    (λ t. absurd (omega (arith, e, place_end 34 s i (leb-true (length s) i t))))
    (λ t.
    let h : i < length s = leb-false (length s) i t in
    either (eqb (get_or s i 0) 34)
    (λ g. absurd (omega (arith, e, place_stop 34 s i h g)))
    (λ g.
    let m : place_of 34 (drop (i + 1) s) ≡ n = omega (arith, e, place_go 34 s i h g) in
    let z : i + 1 + n ≡ i + suc n = omega arith in
    rw z at (inside_run n (i + 1) (inside_more w h (eqb-false _ _ g)) m)))

module _ {p : Quoting} {s : List ℕ} {a i q : ℕ} (w : Way p s a i inside) (e : q ≡ i + place_of 34 (drop i s)) where
  pub inside_to : Way p s a q inside
  inside_to = rw (sym e) at (inside_run (place_of 34 (drop i s)) i w refl)

  pub inside_end : q ≡ length s → EndsAt p s a (record { end = q; sound = false })
  unfolding may_end
  inside_end h = way_end inside_to false (omega (arith, h)) refl

  -- the next quote is at q
  module _ (h : q ≡ length s → ⊥) where
    pub quote_within : q < length s
    quote_within = omega (arith, h, inside_to.high)

    pub quote_closes : Way p s a (q + 1) closed
    quote_closes = inside_quote inside_to quote_within (quote_found s i q e quote_within)

-- ---- the field that starts at a
cons_at : (s : List ℕ) (i : ℕ) → i < length s → drop i s ≡ get_or s i 0 ∷ drop (i + 1) s
cons_at s i h = rw add-one (drop-cons s i 0 h)

unquoted : (c : Bool) → by_mark false c inside start plain ≡ by_mark false c broken start plain
unfolding by_mark
unquoted true = refl
unquoted false = refl

start-split : (b : ℕ) (l : List ℕ) → eqb b 34 ≡ false → split start (b ∷ l) ≡ split plain (b ∷ l)
unfolding split may_end move
start-split b l e = rw (e, unquoted (eqb b 44))

start-sound : (b : ℕ) (l : List ℕ) → eqb b 34 ≡ false → sound_from start (b ∷ l) ≡ sound_from plain (b ∷ l)
unfolding sound_from move
start-sound b l e = rw (e, unquoted (eqb b 44))

module _ (s : List ℕ) (a : ℕ) where
  pub start_none : a ≡ length s → EndsAt start s a (record { end = a; sound = true })
  unfolding may_end
  start_none h = way_end (way_start start s a (omega (arith, h))) true (omega (arith, h)) refl

  pub start-quoted : {r : FieldEnd} → a < length s → get_or s a 0 ≡ 34 → EndsAt inside s (a + 1) r → EndsAt start s a r
  unfolding move by_mark may_end
  start-quoted h e k = way_join (way_more (way_start start s a (omega (arith, h))) inside h (rw e) (rw e)) k

  -- an unquoted one is read as from within it
  pub start_plain : {r : FieldEnd} → a < length s → (get_or s a 0 ≡ 34 → ⊥) → EndsAt plain s a r → EndsAt start s a r
  start_plain h e k =
      record {
        low = k.low;
        high = k.high;
        parts = ap (split start) (cons_at s a h) ∙ start-split _ _ (ne_eqb _ _ e) ∙ ap (split plain) (sym (cons_at s a h)) ∙ k.parts;
        quoting = ap (sound_from start) (cons_at s a h) ∙ start-sound _ _ (ne_eqb _ _ e) ∙ ap (sound_from plain) (sym (cons_at s a h)) ∙ k.quoting;
      }
