-- Where the fields of a line stand: each field is the part of the line from its start to its end, the parts come in order, and between
-- two there is just one separator. Assumes nothing.
use Prim.Native.Nat.{ℕ, zero, suc, ◌+◌, ◌-◌, ◌<◌, ◌≤◌}
use mathlib.Core.Path.{◌≡◌, refl, sym, ap, ◌∙◌}
use mathlib.Core.List.{List, [], ◌∷◌}
use mathlib.Core.Bool.{true, false}
use native.Mathlib.Omega.{arith}
use lib.ListN.{length, get_or, take, drop, length-append}
use lib.Dec.{ltb}
use borrow.Author.Tests.{ltb-true, ltb-false}
use Rattle.slices.proofs.Laws.{part_left}
use Rattle.text.proofs.Laws.{either}
use Rattle.log_lines.specs.Lines.{first_line}
use Rattle.log_lines.proofs.Lines.{line_front}
use Rattle.log_quotes.specs.Quotes.{Quoting, start, next_quoting, separates, in_first, fields, sound, split, field_at}
use Rattle.log_quotes.proofs.Walk.{split-some, sep_start}
use Rattle.log_fields.specs.declared.Part.{Part}
use Rattle.log_fields.specs.Places.{start_in, field_start, field_end, part_in, part_of, quoting_at, separates_at, is_separator}

-- ---- a field in front, and a byte more in the first field
pub start-cons : (f : List ℕ) (fs : List (List ℕ)) (k : ℕ) → 0 < length fs → start_in (f ∷ fs) (suc k) ≡ length f + 1 + start_in fs k
unfolding start_in
start-cons f [] k h = absurd (omega (arith, h))
start-cons f (g ∷ fs) k h = refl

module _ (b : ℕ) where
  start_in_lem : (fs : List (List ℕ)) (k : ℕ) → 0 < length fs → start_in (in_first b fs) (suc k) ≡ suc (start_in fs (suc k))
  unfolding start_in in_first
  start_in_lem [] k h = absurd (omega (arith, h))
  start_in_lem (f ∷ []) k h = refl
  start_in_lem (f ∷ g ∷ fs) k h = omega arith

  get_in : (fs : List (List ℕ)) (k : ℕ) → get_or (in_first b fs) (suc k) [] ≡ get_or fs (suc k) []
  unfolding in_first
  get_in [] k = refl
  get_in (f ∷ fs) k = refl

  in_length : (fs : List (List ℕ)) → length (in_first b fs) ≡ length fs
  unfolding in_first
  in_length [] = refl
  in_length (f ∷ fs) = refl

-- ---- field k of the line l, whose fields are fs, the first byte standing as q
record At (q : Quoting) (l : List ℕ) (fs : List (List ℕ)) (k : ℕ) : Type 0 where
  -- it is the part of the line from its start on
  pub bytes : take (length (get_or fs k [])) (drop (start_in fs k) l) ≡ get_or fs k []
  pub within : start_in fs k + length (get_or fs k []) ≤ length l
  -- no byte of it separates, and the one after it does, where another field comes
  pub inner : (i : ℕ) → i < length (get_or fs k []) → separates_at q l (start_in fs k + i) ≡ false
  pub after : suc k < length fs → separates_at q l (start_in fs k + length (get_or fs k [])) ≡ true

-- the same one byte further
sep_more : (q : Quoting) (b : ℕ) (l : List ℕ) (n : ℕ) → separates_at q (b ∷ l) (suc n) ≡ separates_at (next_quoting q b) l n
unfolding quoting_at
sep_more q b l n = refl

sep_from : (q : Quoting) (b : ℕ) {p : Quoting} (l : List ℕ) (a c i : ℕ) → next_quoting q b ≡ p → c ≡ suc a → separates_at q (b ∷ l) (c + i) ≡ separates_at p l (a + i)
sep_from q b {p} l a c i e m =
    let z : c + i ≡ suc (a + i) = omega arith in
    ap (separates_at q (b ∷ l)) z ∙ sep_more q b l (a + i) ∙ ap (λ (x : Quoting). separates_at x l (a + i)) e

at_more :
    (q : Quoting) (b : ℕ) {p : Quoting} {l : List ℕ} {fs gs : List (List ℕ)} {j k : ℕ} →
    At p l gs j →
    next_quoting q b ≡ p →
    start_in fs k ≡ suc (start_in gs j) →
    get_or fs k [] ≡ get_or gs j [] →
    (suc k < length fs → suc j < length gs) →
    At q (b ∷ l) fs k
at_more q b {p} {l} {fs} {gs} {j} {k} w e m n o =
    record {
      bytes = rw (m, n) w.bytes;
      within = rw (m, n) (omega (arith, w.within));
      inner = λ i h. sep_from q b l (start_in gs j) (start_in fs k) i e m ∙ w.inner i (rw n at h);
      after = λ h. rw n (sep_from q b l (start_in gs j) (start_in fs k) (length (get_or gs j [])) e m ∙ w.after (o h));
    }

at_none : (q : Quoting) (k : ℕ) → At q [] ([] ∷ []) k
unfolding start_in
at_none q zero = record { bytes = refl; within = omega arith; inner = λ i h. absurd (omega (arith, h)); after = λ h. absurd (omega (arith, h)) }
at_none q (suc k) = record { bytes = refl; within = omega arith; inner = λ i h. absurd (omega (arith, h)); after = λ h. absurd (omega (arith, h)) }

at_sep : (q : Quoting) (b : ℕ) (l : List ℕ) (fs : List (List ℕ)) → separates q b ≡ true → At q (b ∷ l) ([] ∷ fs) 0
unfolding start_in quoting_at
at_sep q b l fs e = record { bytes = refl; within = omega arith; inner = λ i h. absurd (omega (arith, h)); after = λ h. e }

at_first : (q : Quoting) (b : ℕ) {l f : List ℕ} {fs : List (List ℕ)} → separates q b ≡ false → At (next_quoting q b) l (f ∷ fs) 0 → At q (b ∷ l) ((b ∷ f) ∷ fs) 0
unfolding start_in quoting_at
at_first q b {l} {f} {fs} e w =
    record {
      bytes = ap (λ (x : List ℕ). b ∷ x) w.bytes;
      within = omega (arith, w.within);
      inner = first_inner;
      after = λ h. let z : 0 + suc (length f) ≡ suc (0 + length f) = omega arith in rw z (w.after h);
    }
  where
    first_inner : (i : ℕ) → i < length (b ∷ f) → separates_at q (b ∷ l) (0 + i) ≡ false
    first_inner zero h = e
    first_inner (suc i) h = let z : 0 + suc i ≡ suc (0 + i) = omega arith in rw z (w.inner i (omega (arith, h)))

at_in : (q : Quoting) (b : ℕ) {l : List ℕ} (fs : List (List ℕ)) → 0 < length fs → separates q b ≡ false → At (next_quoting q b) l fs 0 → At q (b ∷ l) (in_first b fs) 0
unfolding in_first
at_in q b [] h e w = absurd (omega (arith, h))
at_in q b (f ∷ fs) h e w = at_first q b e w

at : (q : Quoting) (l : List ℕ) (k : ℕ) → At q l (split q l) k
unfolding split
at q [] k = at_none q k
at q (b ∷ l) zero =
    either (separates q b)
    (λ e. rw e (at_sep q b l (split start l) e))
    (λ e. rw e (at_in q b (split (next_quoting q b) l) (split-some (next_quoting q b) l) e (at (next_quoting q b) l 0)))
at q (b ∷ l) (suc k) =
    either (separates q b)
    (λ e.
    let g = start-cons [] (split start l) k (split-some start l) in
    rw e (at_more q b (at start l k) (sep_start q b e) (omega (arith, g)) refl (λ h. omega (arith, h))))
    (λ e.
    let fs = split (next_quoting q b) l in
    rw e (at_more q b (at (next_quoting q b) l (suc k)) refl (start_in_lem b fs k (split-some (next_quoting q b) l)) (get_in b fs k) (λ h. omega (arith, h, in_length b fs))))

-- ---- the next field starts after one byte; where there is none, at the end of this one
start_next : (fs : List (List ℕ)) (k : ℕ) → suc k < length fs → start_in fs (suc k) ≡ start_in fs k + length (get_or fs k []) + 1
unfolding start_in
start_next [] k h = absurd (omega (arith, h))
start_next (f ∷ []) k h = absurd (omega (arith, h))
start_next (f ∷ g ∷ fs) zero h = omega arith
start_next (f ∷ g ∷ fs) (suc k) h = omega (arith, start_next (g ∷ fs) k (omega (arith, h)))

start_last : (fs : List (List ℕ)) (k : ℕ) → length fs ≤ suc k → start_in fs (suc k) ≡ start_in fs k + length (get_or fs k [])
unfolding start_in
start_last [] zero h = refl
start_last [] (suc k) h = refl
start_last (f ∷ []) zero h = omega arith
start_last (f ∷ []) (suc k) h = omega arith
start_last (f ∷ g ∷ fs) zero h = absurd (omega (arith, h))
start_last (f ∷ g ∷ fs) (suc k) h = omega (arith, start_last (g ∷ fs) k (omega (arith, h)))

start_more : (fs : List (List ℕ)) (k : ℕ) → start_in fs k + length (get_or fs k []) ≤ start_in fs (suc k)
start_more fs k =
    either (ltb (suc k) (length fs))
    (λ e. omega (arith, start_next fs k (ltb-true _ _ e)))
    (λ e. omega (arith, start_last fs k (ltb-false _ _ e)))

start-order : (fs : List (List ℕ)) (j n : ℕ) → start_in fs j + length (get_or fs j []) ≤ start_in fs (j + suc n)
start-order fs j zero = let z : j + 1 ≡ suc j = omega arith in rw z (start_more fs j)
start-order fs j (suc n) = let z : j + suc (suc n) ≡ suc (j + suc n) = omega arith in rw z (omega (arith, start-order fs j n, start_more fs (j + suc n)))

-- past all fields is the end of the line
start-past : (q : Quoting) (l : List ℕ) (k : ℕ) → length (split q l) ≤ k → start_in (split q l) k ≡ length l
unfolding split start_in
start-past q [] zero h = absurd (omega (arith, h))
start-past q [] (suc k) h = refl
start-past q (b ∷ l) zero h = absurd (omega (arith, h, split-some q (b ∷ l)))
start-past q (b ∷ l) (suc k) h =
    either (separates q b)
    (λ e.
    let i = start-past start l k (let z : suc (length (split start l)) ≤ suc k = rw e at h in omega (arith, z)) in
    rw e (start-cons [] (split start l) k (split-some start l) ∙ omega (arith, i)))
    (λ e.
    let fs = split (next_quoting q b) l in
    let i = start-past (next_quoting q b) l (suc k) (let z : length (in_first b fs) ≤ suc k = rw e at h in omega (arith, z, in_length b fs)) in
    rw e (start_in_lem b fs k (split-some (next_quoting q b) l) ∙ ap suc i))

-- ---- a line
module _ (l : List ℕ) (k : ℕ) where
  -- of an unsound one
  pub part_none : sound l ≡ false → record { start = 0; end = 0 } ≡ part_of l k
  unfolding field_start field_end field_at
  part_none e = rw e

  -- of a sound one
  pub part_some : sound l ≡ true → part_in l k ≡ part_of l k
  unfolding field_start field_end field_at
  part_some e = rw e

  -- a field lies within its line
  pub part_within : field_end l k ≤ length l
  unfolding field_start field_end field_at
  part_within = either (sound l) (λ e. rw e (at start l k).within) (λ e. rw e (omega arith))

  -- and is the part of it from its start to its end
  pub part_bytes : take (field_end l k - field_start l k) (drop (field_start l k) l) ≡ field_at l k
  unfolding field_start field_end field_at
  part_bytes =
      either (sound l)
      (λ e.
      let n = length (get_or (fields l) k []) in
      let z : start_in (fields l) k + n - start_in (fields l) k ≡ n = omega arith in
      rw (e, z) (at start l k).bytes)
      (λ e. rw e)

-- so too of the text whose first line it is
module _ (t : List ℕ) (k : ℕ) {p : Part} (e : p ≡ part_of (first_line t) k) where
  abbrev here : List ℕ
  here = first_line t

  pub text_start : p.start ≡ field_start here k
  text_start = ap (λ (x : Part). x.start) e

  text_end : p.end ≡ field_end here k
  text_end = ap (λ (x : Part). x.end) e

  pub text_order : p.start ≤ p.end
  unfolding field_end
  text_order = omega (arith, text_start, text_end)

  pub text_within : p.end ≤ length t
  text_within = omega (arith, text_end, part_within here k, length-append here (drop (length here) t), ap length (line_front t))

  pub text_bytes : take (p.end - p.start) (drop p.start t) ≡ field_at here k
  text_bytes =
      let w = part_within here k in
      let o = text_order in
      rw (text_start, text_end)
      (ap (λ (x : List ℕ). take (field_end here k - field_start here k) (drop (field_start here k) x)) (sym (line_front t))
      ∙ part_left (field_end here k - field_start here k) (field_start here k) here (drop (length here) t) (omega (arith, w, o, text_start, text_end))
      ∙ part_bytes here k)

-- ---- which part of a sound line it is
module _ (l : List ℕ) (s : sound l ≡ true) where
  -- the first field starts at 0
  pub first_start : field_start l 0 ≡ 0
  unfolding field_start start_in
  first_start = rw s

  -- before the next one there is one byte, which separates
  pub next_start : (k : ℕ) → suc k < length (fields l) → field_start l (suc k) ≡ field_end l k + 1
  unfolding field_start field_end field_at
  next_start k h = rw s (start_next (fields l) k h)

  pub end_separates : (k : ℕ) → suc k < length (fields l) → is_separator l (field_end l k) ≡ true
  unfolding field_start field_end field_at
  end_separates k h = rw s ((at start l k).after h)

  -- no byte of a field does
  pub none_separates : (k i : ℕ) → field_start l k ≤ i → i < field_end l k → is_separator l i ≡ false
  unfolding field_start field_end field_at
  none_separates k i g h =
      let a = start_in (fields l) k in
      let x : a ≤ i = rw s at g in
      let y : i < a + length (get_or (fields l) k []) = rw s at h in
      let z : a + (i - a) ≡ i = omega arith in
      rw z at ((at start l k).inner (i - a) (omega arith))

  -- the last ends with the line, and one that the line has not is empty there
  pub last_end : (k : ℕ) → length (fields l) ≤ suc k → field_end l k ≡ length l
  unfolding field_start field_end field_at
  last_end k h = rw s (sym (start_last (fields l) k h) ∙ start-past start l (suc k) h)

  pub absent_start : (k : ℕ) → length (fields l) ≤ k → field_start l k ≡ length l
  unfolding field_start
  absent_start k h = rw s (start-past start l k h)

  -- a field ends before each later one starts
  pub in_order : (j k : ℕ) → j < k → field_end l j ≤ field_start l k
  unfolding field_start field_end field_at
  in_order j k h = let z : j + suc (k - suc j) ≡ k = omega arith in rw s (rw z at (start-order (fields l) j (k - suc j)))
