-- Sound quoting from left to right is sound quoting by the look of the fields. Assumes nothing.
use Prim.Native.Nat.{ℕ}
use mathlib.Core.Path.{◌≡◌, refl, sym, ap, ◌∙◌}
use mathlib.Core.List.{List, [], ◌∷◌, ◌++◌, append-nil}
use mathlib.Core.Bool.{Bool, true, false, not, ◌&&◌, and-false, true≢false}
use lib.Dec.{eqb}
use borrow.Author.Tests.{eqb-true, not-true}
use Rattle.log_quotes.specs.Quotes.{Quoting, start, plain, inside, closed, broken, by_mark, move, next_quoting, may_end, separates, in_first, split, fields, sound_from, sound}
use Rattle.meter_log_laws.specs.Added.{join, comma_each}
use Rattle.meter_log_laws.specs.Grammar.{no_marks, Doubled, none, other, twice, Field, bare, quoted, AllFields, one, more}
use Rattle.slices.proofs.Laws.{and_yes}
use Rattle.text.proofs.Laws.{either}
use Rattle.log_quotes.proofs.Walk.{sep_comma, sep_start}
use Rattle.meter_log_laws.proofs.Put.{clean, clean_no, clean_rest, clean_split, clean_alone, clean_sound, clean_true, join-split}

-- ---- one field
module _ (b : ℕ) (f : List ℕ) (n : no_marks (b ∷ f) ≡ true) where
  marks_first : (eqb b 34 ≡ false) × (eqb b 44 ≡ false)
  unfolding no_marks
  marks_first =
      let p = and_yes (not (eqb b 34) && not (eqb b 44)) (no_marks f) n in
      let q = and_yes (not (eqb b 34)) (not (eqb b 44)) p.0 in
      (not-true _ q.0, not-true _ q.1)

  marks_rest : no_marks f ≡ true
  unfolding no_marks
  marks_rest = (and_yes (not (eqb b 34) && not (eqb b 44)) (no_marks f) n).1

plain_clean : (f : List ℕ) → no_marks f ≡ true → clean plain f ≡ true
unfolding clean move by_mark may_end
plain_clean [] n = refl
plain_clean (b ∷ f) n = let p = marks_first b f n in rw (p.0, p.1) (plain_clean f (marks_rest b f n))

bare_clean : (f : List ℕ) → no_marks f ≡ true → clean start f ≡ true
unfolding clean move by_mark may_end
bare_clean [] n = refl
bare_clean (b ∷ f) n = let p = marks_first b f n in rw (p.0, p.1) (plain_clean f (marks_rest b f n))

inside_clean : {s : List ℕ} → Doubled s → clean inside (s ++ (34 ∷ [])) ≡ true
unfolding clean move by_mark may_end
inside_clean none = refl
inside_clean (other {b} {s} e d) = rw (e, and-false (eqb b 44)) (either (eqb b 44) (λ x. rw x (inside_clean d)) (λ x. rw x (inside_clean d)))
inside_clean (twice {b} {c} {s} e g d) = rw (e, g) (inside_clean d)

-- a field of the look, read from left to right, meets no separator and may end
pub field_clean : {f : List ℕ} → Field f → clean start f ≡ true
unfolding clean move by_mark may_end
field_clean {f} (bare n) = bare_clean f n
field_clean (quoted s e d) = rw e (inside_clean d)

-- ---- and back
broken_clean : (f : List ℕ) → clean broken f ≡ false
unfolding clean move by_mark may_end
broken_clean [] = refl
broken_clean (b ∷ f) = rw (and-false (eqb b 44)) (broken_clean f)

not_both : {P : Type 0} {t : Bool} → t ≡ true → t ≡ false → P
not_both e g = absurd (true≢false (sym e ∙ g))

module _ (q : Quoting) (b : ℕ) (f : List ℕ) (c : clean q (b ∷ f) ≡ true) where
  rest_by : (x y : Bool) → eqb b 34 ≡ x → eqb b 44 ≡ y → clean (move q x y) f ≡ true
  rest_by x y e g = rw (← e, ← g) (clean_rest q b f c)

  no_by : (y : Bool) → eqb b 44 ≡ y → (y && may_end q) ≡ false
  no_by y g = rw (← g) (clean_no q b f c)

plain_back : (f : List ℕ) → clean plain f ≡ true → no_marks f ≡ true
unfolding no_marks move by_mark may_end
plain_back [] c = refl
plain_back (b ∷ f) c =
    either (eqb b 34)
    (λ e. not_both (rest_by plain b f c true (eqb b 44) e refl) (broken_clean f))
    (λ e.
    either (eqb b 44)
    (λ g. not_both refl (no_by plain b f c true g))
    (λ g. rw (e, g) (plain_back f (rest_by plain b f c false false e g))))

in_stay : (y : Bool) → move inside false y ≡ inside
unfolding move by_mark
in_stay true = refl
in_stay false = refl

stay_by : (b : ℕ) (f : List ℕ) → clean inside (b ∷ f) ≡ true → eqb b 34 ≡ false → clean inside f ≡ true
stay_by b f c e = sym (ap (λ (p : Quoting). clean p f) (in_stay (eqb b 44))) ∙ rest_by inside b f c false (eqb b 44) e refl

closed_back : (d : ℕ) (f : List ℕ) → clean closed (d ∷ f) ≡ true → eqb d 34 ≡ true
unfolding move by_mark may_end
closed_back d f c =
    either (eqb d 34)
    (λ e. e)
    (λ e.
    either (eqb d 44)
    (λ g. not_both refl (no_by closed d f c true g))
    (λ g. not_both (rest_by closed d f c false false e g) (broken_clean f)))

record Body (f : List ℕ) : Type 0 where
  pub inner : List ℕ
  pub whole : f ≡ inner ++ (34 ∷ [])
  pub doubled : Doubled inner

inside_more : (b : ℕ) (f : List ℕ) → eqb b 34 ≡ false → Body f → Body (b ∷ f)
inside_more b f e w = record { inner = b ∷ w.inner; whole = ap (λ (x : List ℕ). b ∷ x) w.whole; doubled = other e w.doubled }

inside-twice : (b d : ℕ) (f : List ℕ) → eqb b 34 ≡ true → eqb d 34 ≡ true → Body f → Body (b ∷ d ∷ f)
inside-twice b d f e g w =
    record {
      inner = b ∷ d ∷ w.inner;
      whole = ap (λ (x : List ℕ). b ∷ d ∷ x) w.whole;
      doubled = twice (eqb-true b 34 e) (eqb-true d 34 g) w.doubled;
    }

inside_back : (f : List ℕ) → clean inside f ≡ true → Body f
unfolding clean move by_mark may_end
inside_back [] c = not_both refl (sym c)
inside_back (b ∷ []) c =
    either (eqb b 34)
    (λ e. record { inner = []; whole = ap (λ (x : ℕ). x ∷ []) (eqb-true b 34 e); doubled = none })
    (λ e. not_both (stay_by b [] c e) refl)
inside_back (b ∷ d ∷ f) c =
    either (eqb b 34)
    (λ e.
    let k = rest_by inside b (d ∷ f) c true (eqb b 44) e refl in
    let g = closed_back d f k in
    inside-twice b d f e g (inside_back f (rest_by closed d f k true (eqb d 44) g refl)))
    (λ e. inside_more b (d ∷ f) e (inside_back (d ∷ f) (stay_by b (d ∷ f) c e)))

-- and what does so has the look
pub clean_field : (f : List ℕ) → clean start f ≡ true → Field f
unfolding no_marks move by_mark may_end
clean_field [] c = bare refl
clean_field (b ∷ f) c =
    either (eqb b 34)
    (λ e.
    let w = inside_back f (rest_by start b f c true (eqb b 44) e refl) in
    quoted w.inner (ap (λ (x : ℕ). x ∷ f) (eqb-true b 34 e) ∙ ap (λ (x : List ℕ). 34 ∷ x) w.whole) w.doubled)
    (λ e.
    either (eqb b 44)
    (λ g. not_both refl (no_by start b f c true g))
    (λ g. bare (rw (e, g) (plain_back f (rest_by start b f c false false e g)))))

-- ---- whole lines
data Pieces : Quoting → List (List ℕ) → Type 0 where
  only : {q : Quoting} {f : List ℕ} → clean q f ≡ true → Pieces q (f ∷ [])
  then : {q : Quoting} {f g : List ℕ} {fs : List (List ℕ)} → clean q f ≡ true → Pieces start (g ∷ fs) → Pieces q (f ∷ g ∷ fs)

empty_first : {q : Quoting} {fs : List (List ℕ)} → may_end q ≡ true → Pieces start fs → Pieces q ([] ∷ fs)
unfolding clean
empty_first e (only c) = then e (only c)
empty_first e (then c p) = then e (then c p)

clean_cons : (q : Quoting) (b : ℕ) (f : List ℕ) → separates q b ≡ false → clean (next_quoting q b) f ≡ true → clean q (b ∷ f) ≡ true
unfolding clean
clean_cons q b f e c = rw (e, c)

byte_first : (q : Quoting) (b : ℕ) {fs : List (List ℕ)} → separates q b ≡ false → Pieces (next_quoting q b) fs → Pieces q (in_first b fs)
unfolding in_first
byte_first q b e (only {f = f} c) = only (clean_cons q b f e c)
byte_first q b e (then {f = f} c p) = then (clean_cons q b f e c) p

split-pieces : (q : Quoting) (l : List ℕ) → sound_from q l ≡ true → Pieces q (split q l)
unfolding clean split sound_from
split-pieces q [] s = only s
split-pieces q (b ∷ l) s =
    either (separates q b)
    (λ e. rw e (empty_first (sep_comma q b e).1 (split-pieces start l (sym (ap (λ (p : Quoting). sound_from p l) (sep_start q b e)) ∙ s))))
    (λ e. rw e (byte_first q b e (split-pieces (next_quoting q b) l s)))

pieces-fields : {fs : List (List ℕ)} → Pieces start fs → AllFields fs
pieces-fields (only {f = f} c) = one (clean_field f c)
pieces-fields (then {f = f} c p) = more (clean_field f c) (pieces-fields p)

-- the fields of a soundly quoted line have the look of fields, and joined they are the line (`join-split`)
pub sound-fields : (l : List ℕ) → sound l ≡ true → AllFields (fields l) × (join (fields l) ≡ l)
sound-fields l s = (pieces-fields (split-pieces start l s), join-split start l)

-- fields of that look, joined, are a soundly quoted line with just these fields
pub fields-sound : (fs : List (List ℕ)) → AllFields fs → (sound (join fs) ≡ true) × (fields (join fs) ≡ fs)
unfolding join comma_each
fields-sound [] x' = elim x' [ ]
fields-sound (f ∷ []) (one w) = let c = field_clean w in (rw (append-nil f) (clean_true start f c), rw (append-nil f) (clean_alone start f c))
fields-sound (f ∷ g ∷ fs) (more w ws) =
    let c = field_clean w in
    let i = fields-sound (g ∷ fs) ws in
    (clean_sound start f (join (g ∷ fs)) c ∙ i.0, clean_split start f (join (g ∷ fs)) c ∙ ap (λ (x : List (List ℕ)). f ∷ x) i.1)
