-- A field put into the bytes of a line: soundness stays, and the fields are the old ones with it among them. Assumes nothing.
use Prim.Native.Nat.{ℕ, zero, suc}
use mathlib.Core.Path.{◌≡◌, refl, sym, ap, ◌∙◌}
use mathlib.Core.List.{List, [], ◌∷◌, ◌++◌, append-nil}
use mathlib.Core.Bool.{Bool, true, false, cond, not, ◌&&◌, true≢false}
use lib.Dec.{eqb}
use borrow.Author.Tests.{not-true}
use Rattle.log_quotes.specs.Quotes.{Quoting, start, plain, inside, closed, broken, by_mark, move, next_quoting, may_end, separates, in_first, split, fields, sound_from, sound}
use Rattle.meter_log_laws.specs.Added.{insert_at, comma_each, join, add_at}
use Rattle.slices.proofs.Laws.{and_yes}
use Rattle.text.proofs.Laws.{either}
use Rattle.log_quotes.proofs.Walk.{sep_comma, comma_start, sep_start}

-- ---- the first field
-- one field or more
pub data Some : List (List ℕ) → Type 0 where
  some : {f : List ℕ} {fs : List (List ℕ)} → Some (f ∷ fs)

in_some : (b : ℕ) (fs : List (List ℕ)) → Some fs → Some (in_first b fs)
unfolding in_first
in_some b [] x' = elim x' [ ]
in_some b (f ∷ fs) some = some

-- a line has one field or more
pub split-some : (q : Quoting) (l : List ℕ) → Some (split q l)
unfolding split
split-some q [] = some
split-some q (b ∷ l) = either (separates q b) (λ e. rw e some) (λ e. rw e (in_some b _ (split-some (next_quoting q b) l)))

join_in : (b : ℕ) (fs : List (List ℕ)) → Some fs → join (in_first b fs) ≡ b ∷ join fs
unfolding in_first join
join_in b [] x' = elim x' [ ]
join_in b (f ∷ fs) some = refl

insert_in : (k : ℕ) (f : List ℕ) (b : ℕ) (fs : List (List ℕ)) → Some fs → insert_at (suc k) f (in_first b fs) ≡ in_first b (insert_at (suc k) f fs)
unfolding in_first insert_at
insert_in k f b [] x' = elim x' [ ]
insert_in k f b (g ∷ fs) some = refl

insert-some : (k : ℕ) (f : List ℕ) (fs : List (List ℕ)) → Some fs → Some (insert_at k f fs)
unfolding insert_at
insert-some (suc k) f [] s = elim s [ ]
insert-some zero f fs s = some
insert-some (suc k) f (g ∷ fs) some = some

-- commas before the fields are a comma and then commas between them
pub each-join : (fs : List (List ℕ)) → Some fs → comma_each fs ≡ 44 ∷ join fs
unfolding comma_each join
each-join [] x' = elim x' [ ]
each-join (f ∷ fs) some = refl

-- joined again, the fields are the line
pub join-split : (q : Quoting) (l : List ℕ) → join (split q l) ≡ l
unfolding split join comma_each
join-split q [] = refl
join-split q (b ∷ l) =
    either (separates q b)
    (λ e. rw e (each-join (split start l) (split-some start l) ∙ rw (join-split start l) (ap (λ (x : ℕ). x ∷ l) (sym (sep_comma q b e).0))))
    (λ e. rw e (join_in b (split (next_quoting q b) l) (split-some (next_quoting q b) l) ∙ rw (join-split (next_quoting q b) l)))

-- ---- a field by itself
-- no separator is met, and it may end
unfoldable pub clean : Quoting → List ℕ → Bool
clean q [] = may_end q
clean q (b ∷ bs) = not (separates q b) && clean (next_quoting q b) bs

module _ (q : Quoting) (b : ℕ) (f : List ℕ) (c : clean q (b ∷ f) ≡ true) where
  -- its first byte is no separator
  pub clean_no : separates q b ≡ false
  unfolding clean
  clean_no = not-true _ (and_yes (not (separates q b)) (clean (next_quoting q b) f) c).0

  -- and the rest is such bytes from where it stands
  pub clean_rest : clean (next_quoting q b) f ≡ true
  unfolding clean
  clean_rest = (and_yes (not (separates q b)) (clean (next_quoting q b) f) c).1

-- before a comma and more, it is the first field
pub clean_split : (q : Quoting) (f l : List ℕ) → clean q f ≡ true → split q (f ++ 44 ∷ l) ≡ f ∷ split start l
unfolding split clean in_first
clean_split q [] l c = rw c
clean_split q (b ∷ f) l c = rw (clean_no q b f c, clean_split (next_quoting q b) f l (clean_rest q b f c))

-- by itself, it is the only field
pub clean_alone : (q : Quoting) (f : List ℕ) → clean q f ≡ true → split q f ≡ f ∷ []
unfolding split clean in_first
clean_alone q [] c = refl
clean_alone q (b ∷ f) c = rw (clean_no q b f c, clean_alone (next_quoting q b) f (clean_rest q b f c))

-- before a comma and more, the line is sound as what comes after
pub clean_sound : (q : Quoting) (f l : List ℕ) → clean q f ≡ true → sound_from q (f ++ 44 ∷ l) ≡ sound_from start l
unfolding sound_from clean
clean_sound q [] l c = ap (λ (p : Quoting). sound_from p l) (comma_start q c)
clean_sound q (b ∷ f) l c = clean_sound (next_quoting q b) f l (clean_rest q b f c)

-- by itself, it is sound
pub clean_true : (q : Quoting) (f : List ℕ) → clean q f ≡ true → sound_from q f ≡ true
unfolding sound_from clean
clean_true q [] c = c
clean_true q (b ∷ f) c = clean_true (next_quoting q b) f (clean_rest q b f c)

-- ---- read from inside quotes, a field by itself is unsound: quotes come in pairs
no_yes : {P : Type 0} → false ≡ true → P
no_yes e = absurd (true≢false (sym e))

unfoldable not_inside : Quoting → Bool
not_inside start = true
not_inside plain = true
not_inside inside = false
not_inside closed = true
not_inside broken = true

-- the places that a byte may have in the reading p, started inside quotes, where it has q in the reading of the field
unfoldable crossed : Quoting → Quoting → Bool
crossed start p = not (may_end p)
crossed plain p = not (may_end p)
crossed inside p = not_inside p
crossed closed p = not (may_end p)
crossed broken p = true

out_quote : (p : Quoting) (y : Bool) → not (may_end p) ≡ true → not_inside (move p true y) ≡ true
unfolding may_end move by_mark not_inside
out_quote start y e = no_yes e
out_quote plain y e = no_yes e
out_quote inside y e = refl
out_quote closed y e = no_yes e
out_quote broken y e = refl

out_other : (p : Quoting) → not (may_end p) ≡ true → not (may_end (move p false false)) ≡ true
unfolding may_end move by_mark
out_other start e = no_yes e
out_other plain e = no_yes e
out_other inside e = refl
out_other closed e = no_yes e
out_other broken e = refl

in_quote : (p : Quoting) (y : Bool) → not_inside p ≡ true → not (may_end (move p true y)) ≡ true
unfolding may_end move by_mark not_inside
in_quote start y e = refl
in_quote plain y e = refl
in_quote inside y e = no_yes e
in_quote closed y e = refl
in_quote broken y e = refl

in_else : (p : Quoting) (y : Bool) → not_inside p ≡ true → not_inside (move p false y) ≡ true
unfolding move by_mark not_inside
in_else start true e = refl
in_else start false e = refl
in_else plain true e = refl
in_else plain false e = refl
in_else inside y e = no_yes e
in_else closed true e = refl
in_else closed false e = refl
in_else broken y e = refl

crossed_step : (q p : Quoting) (x y : Bool) → crossed q p ≡ true → (y && may_end q) ≡ false → crossed (move q x y) (move p x y) ≡ true
unfolding crossed move by_mark may_end
crossed_step start p true y c s = out_quote p y c
crossed_step start p false true c s = no_yes (sym s)
crossed_step start p false false c s = out_other p c
crossed_step plain p true y c s = refl
crossed_step plain p false true c s = no_yes (sym s)
crossed_step plain p false false c s = out_other p c
crossed_step inside p true y c s = in_quote p y c
crossed_step inside p false true c s = in_else p true c
crossed_step inside p false false c s = in_else p false c
crossed_step closed p true y c s = out_quote p y c
crossed_step closed p false true c s = no_yes (sym s)
crossed_step closed p false false c s = refl
crossed_step broken p x y c s = refl

crossed_end : (q p : Quoting) → crossed q p ≡ true → may_end q ≡ true → may_end p ≡ false
unfolding crossed may_end
crossed_end start p c e = not-true (may_end p) c
crossed_end plain p c e = not-true (may_end p) c
crossed_end inside p c e = no_yes e
crossed_end closed p c e = not-true (may_end p) c
crossed_end broken p c e = no_yes e

crossed_not : (q p : Quoting) (f : List ℕ) → crossed q p ≡ true → clean q f ≡ true → sound_from p f ≡ false
unfolding sound_from clean
crossed_not q p [] c e = crossed_end q p c e
crossed_not q p (b ∷ f) c e =
    crossed_not (next_quoting q b) (next_quoting p b) f (crossed_step q p (eqb b 34) (eqb b 44) c (clean_no q b f e)) (clean_rest q b f e)

broken_not : (f : List ℕ) → sound_from broken f ≡ false
unfolding sound_from move by_mark may_end
broken_not [] = refl
broken_not (b ∷ f) = broken_not f

-- a field more at the end: a sound line stays sound and an unsound one unsound
comma_sound : (q : Quoting) (f : List ℕ) → clean start f ≡ true → sound_from q (44 ∷ f) ≡ may_end q
unfolding sound_from move by_mark may_end crossed not_inside
comma_sound start f c = clean_true start f c
comma_sound plain f c = clean_true start f c
comma_sound inside f c = crossed_not start inside f refl c
comma_sound closed f c = clean_true start f c
comma_sound broken f c = broken_not f

-- ---- the bytes with a field put in
-- after separator number k, counted from here, or at the end where it is number k
unfoldable put : ℕ → List ℕ → Quoting → List ℕ → List ℕ
put zero f q [] = 44 ∷ f
put (suc k) f q [] = []
put zero f q (b ∷ l) = b ∷ cond (separates q b) (f ++ 44 ∷ l) (put zero f (next_quoting q b) l)
put (suc k) f q (b ∷ l) = b ∷ cond (separates q b) (put k f start l) (put (suc k) f (next_quoting q b) l)

in_join : (k : ℕ) (f : List ℕ) (b : ℕ) (fs : List (List ℕ)) → Some fs → join (insert_at (suc k) f (in_first b fs)) ≡ b ∷ join (insert_at (suc k) f fs)
in_join k f b fs s = ap join (insert_in k f b fs s) ∙ join_in b (insert_at (suc k) f fs) (insert-some (suc k) f fs s)

put-join : (k : ℕ) (f : List ℕ) (q : Quoting) (l : List ℕ) → join (insert_at (suc k) f (split q l)) ≡ put k f q l
unfolding split put join comma_each insert_at
put-join zero f q [] = rw (append-nil f)
put-join (suc k) f q [] = refl
put-join zero f q (b ∷ l) =
    either (separates q b)
    (λ e. rw (e, each-join (split start l) (split-some start l), join-split start l) (ap (λ (x : ℕ). x ∷ (f ++ 44 ∷ l)) (sym (sep_comma q b e).0)))
    (λ e. rw e (in_join 0 f b (split (next_quoting q b) l) (split-some (next_quoting q b) l) ∙ ap (λ (x : List ℕ). b ∷ x) (put-join zero f (next_quoting q b) l)))
put-join (suc k) f q (b ∷ l) =
    either (separates q b)
    (λ e.
    let i = insert-some (suc k) f (split start l) (split-some start l) in
    rw (e, each-join (insert_at (suc k) f (split start l)) i, put-join k f start l) (ap (λ (x : ℕ). x ∷ put k f start l) (sym (sep_comma q b e).0)))
    (λ e. rw e (in_join (suc k) f b (split (next_quoting q b) l) (split-some (next_quoting q b) l) ∙ ap (λ (x : List ℕ). b ∷ x) (put-join (suc k) f (next_quoting q b) l)))

put-sound : (k : ℕ) (f : List ℕ) (q : Quoting) (l : List ℕ) → clean start f ≡ true → sound_from q (put k f q l) ≡ sound_from q l
unfolding sound_from put
put-sound zero f q [] c = comma_sound q f c
put-sound (suc k) f q [] c = refl
put-sound zero f q (b ∷ l) c =
    either (separates q b)
    (λ e. rw e (ap (λ (p : Quoting). sound_from p (f ++ 44 ∷ l)) (sep_start q b e) ∙ clean_sound start f l c ∙ ap (λ (p : Quoting). sound_from p l) (sym (sep_start q b e))))
    (λ e. rw e (put-sound zero f (next_quoting q b) l c))
put-sound (suc k) f q (b ∷ l) c =
    either (separates q b)
    (λ e. rw e (ap (λ (p : Quoting). sound_from p (put k f start l)) (sep_start q b e) ∙ put-sound k f start l c ∙ ap (λ (p : Quoting). sound_from p l) (sym (sep_start q b e))))
    (λ e. rw e (put-sound (suc k) f (next_quoting q b) l c))

put-split : (k : ℕ) (f : List ℕ) (q : Quoting) (l : List ℕ) → clean start f ≡ true → sound_from q l ≡ true → split q (put k f q l) ≡ insert_at (suc k) f (split q l)
unfolding sound_from split put insert_at
put-split zero f q [] c s = rw (s, clean_alone start f c)
put-split (suc k) f q [] c s = refl
put-split zero f q (b ∷ l) c s =
    either (separates q b)
    (λ e. rw (e, clean_split start f l c))
    (λ e. rw (e, put-split zero f (next_quoting q b) l c s) (sym (insert_in 0 f b _ (split-some (next_quoting q b) l))))
put-split (suc k) f q (b ∷ l) c s =
    either (separates q b)
    (λ e. let t : sound_from start l ≡ true = sym (ap (λ (p : Quoting). sound_from p l) (sep_start q b e)) ∙ s in rw (e, put-split k f start l c t))
    (λ e. rw (e, put-split (suc k) f (next_quoting q b) l c s) (sym (insert_in (suc k) f b _ (split-some (next_quoting q b) l))))

-- ---- a field added at a position
module _ (f l : List ℕ) (c : clean start f ≡ true) where
  add_first : add_at 0 f l ≡ f ++ 44 ∷ l
  unfolding add_at insert_at join
  add_first = rw (each-join (fields l) (split-some start l), join-split start l)

  add_later : (k : ℕ) → add_at (suc k) f l ≡ put k f start l
  unfolding add_at
  add_later k = put-join k f start l

  -- "sound quoting" stays what it is, for every line
  pub add_sound : (k : ℕ) → sound (add_at k f l) ≡ sound l
  add_sound zero = ap sound add_first ∙ clean_sound start f l c
  add_sound (suc k) = ap sound (add_later k) ∙ put-sound k f start l c

  -- and the fields of a sound line are the old ones with f among them
  pub add_fields : (k : ℕ) → sound l ≡ true → fields (add_at k f l) ≡ insert_at k f (fields l)
  unfolding insert_at
  add_fields zero s = ap fields add_first ∙ clean_split start f l c
  add_fields (suc k) s = ap fields (add_later k) ∙ put-split k f start l c s
