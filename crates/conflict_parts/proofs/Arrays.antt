-- A conflict is one by the cells' values or one by their temperatures. Assumes nothing.
use Prim.Native.Nat.{ℕ}
use mathlib.Core.Path.{◌≡◌, refl, sym, ap, ◌∙◌}
use mathlib.Core.Bool.{Bool, true, false, cond, not, ◌||◌}
use mathlib.Core.List.{List}
use mathlib.Core.Logic.{◌↔◌, ◌⊎◌, inl, inr}
use lib.IntN.{pos}
use lib.ListN.{set}
use lib.Seq.{set-get_or}
use lib.Dec.{eqb}
use borrow.Author.Tests.{not-false, eqb-true}
use Rattle.operation.specs.declared.Operation.{Operation}
use Rattle.operation.specs.declared.Cells.{Cells}
use Rattle.operation.specs.Operation.{signed, number_at, value, temp, value_response, response, after, response_on}
use Rattle.operation.proofs.Signed.{signed_one}
use Rattle.conflict_marks.proofs.Stored.{clash}
use Rattle.conflict_cell.specs.Differs.{Differs}
use Rattle.conflict_numbers.specs.Numbers.{changed, answered}
use Rattle.conflict_numbers.proofs.Parts.{Views, by_parts}
use Rattle.conflict_parts.specs.Parts.{temp_part, has_part, part_of, parts_of}

-- What an operation makes of temperatures, and answers by them.
temp-value : (e : Operation) (t : ℕ) → temp e t ≡ value (temp_part e) t
unfolding temp value temp_part
temp-value e t = go (eqb e.kind 5)
  where
    go : (b : Bool) → cond b e.last t ≡ value (record { count = e.count; kind = cond b 4 3; cell = e.cell; amount = cond b e.last 0; last = 0 }) t
    go true = refl
    go false = refl

temp_read : (e : Operation) (t : ℕ) → e.kind ≡ 6 → value_response (temp_part e) t ≡ t
unfolding value_response temp_part
temp_read e t p = simp p

temp_set : (e : Operation) (t : ℕ) → eqb e.kind 5 ≡ true → value_response (temp_part e) t ≡ 1
unfolding value_response temp_part
temp_set e t q = simp q

-- Kind 6 answers by no value.
six : (e : Operation) (v : ℕ) → e.kind ≡ 6 → value_response e v ≡ 1
unfolding value_response
six e v p = simp p

-- A response tells the answer by value, and the answer by temperature; and it differs only if one of these does.
value_told : (e : Operation) (v v' t t' : ℕ) → response e v t ≡ response e v' t' → value_response e v ≡ value_response e v'
unfolding response
value_told e v v' t t' = go (eqb e.kind 6) refl
  where
    go : (b : Bool) → eqb e.kind 6 ≡ b → cond b (signed t) (pos (value_response e v)) ≡ cond b (signed t') (pos (value_response e v')) → value_response e v ≡ value_response e v'
    go true q h = six e v (eqb-true e.kind 6 q) ∙ sym (six e v' (eqb-true e.kind 6 q))
    go false q h = cc

temp_told : (e : Operation) (v v' t t' : ℕ) → has_part true e ≡ true → response e v t ≡ response e v' t' → value_response (temp_part e) t ≡ value_response (temp_part e) t'
unfolding response
temp_told e v v' t t' = go (eqb e.kind 5) (eqb e.kind 6) refl refl
  where
    go : (b c : Bool) → eqb e.kind 5 ≡ b → eqb e.kind 6 ≡ c → (b || c) ≡ true → cond c (signed t) (pos (value_response e v)) ≡ cond c (signed t') (pos (value_response e v'))
        → value_response (temp_part e) t ≡ value_response (temp_part e) t'
    go true c q r i h = temp_set e t q ∙ sym (temp_set e t' q)
    go false true q r i h = ap (value_response (temp_part e)) (signed_one t t' h)
    go false false q r i h = absurd (clash refl i)

value_differs : (e : Operation) (v v' t t' : ℕ) → eqb e.kind 6 ≡ false → (response e v t ≡ response e v' t' → ⊥) → value_response e v ≡ value_response e v' → ⊥
unfolding response
value_differs e v v' t t' q n p = n (rw (q, p))

temp_differs : (e : Operation) (v v' t t' : ℕ) → eqb e.kind 6 ≡ true → (response e v t ≡ response e v' t' → ⊥) → value_response (temp_part e) t ≡ value_response (temp_part e) t' → ⊥
unfolding response
temp_differs e v v' t t' q n p =
    let k = eqb-true e.kind 6 q in
    let z : t ≡ t' = sym (temp_read e t k) ∙ p ∙ temp_read e t' k in n (rw (q, z))

-- The two ways to look at cells.
abbrev pub numbers_of : Bool → Cells → List ℕ
numbers_of temps s = cond temps s.temps s.values

or_neither : (a b : Bool) → (a || b) ≡ false → a ≡ false
or_neither true b e = e
or_neither false b e = refl

or_second : (a b : Bool) → b ≡ true → (a || b) ≡ true
or_second true b e = refl
or_second false b e = e

array_ran : (temps : Bool) (e : Operation) (s : Cells) → numbers_of temps (after e s) ≡ changed (part_of temps e) (numbers_of temps s)
unfolding after changed temp_part
array_ran true e s = ap (set s.temps e.cell) (temp-value e (number_at s.temps e.cell))
array_ran false e s = refl

-- Kind 6 leaves every number.
six_keeps : (e : Operation) (l : List ℕ) → has_part false e ≡ false → changed e l ≡ l
unfolding changed value
six_keeps e l q = let k = eqb-true e.kind 6 (not-false (eqb e.kind 6) q) in simp k (set-get_or l e.cell 0)

array_kept : (temps : Bool) (e : Operation) (s : Cells) → has_part temps e ≡ false → numbers_of temps (after e s) ≡ numbers_of temps s
unfolding after temp
array_kept true e s q = rw (or_neither (eqb e.kind 5) (eqb e.kind 6) q) (set-get_or s.temps e.cell 0)
array_kept false e s q = array_ran false e s ∙ six_keeps e s.values q

array_told : (temps : Bool) (e : Operation) (s u : Cells) → has_part temps e ≡ true → response_on e s ≡ response_on e u
    → answered (part_of temps e) (numbers_of temps s) ≡ answered (part_of temps e) (numbers_of temps u)
unfolding response_on answered temp_part
array_told true e s u q h = temp_told e _ _ _ _ q h
array_told false e s u q h = value_told e _ _ _ _ h

array_seen : (e : Operation) (s u : Cells) → (response_on e s ≡ response_on e u → ⊥)
    → (temps : Bool) × (has_part temps e ≡ true) × (answered (part_of temps e) (numbers_of temps s) ≡ answered (part_of temps e) (numbers_of temps u) → ⊥)
unfolding response_on answered temp_part
array_seen e s u n = go (eqb e.kind 6) refl
  where
    go : (b : Bool) → eqb e.kind 6 ≡ b
        → (temps : Bool) × (has_part temps e ≡ true) × (answered (part_of temps e) (numbers_of temps s) ≡ answered (part_of temps e) (numbers_of temps u) → ⊥)
    go true q = (true, or_second (eqb e.kind 5) (eqb e.kind 6) q, temp_differs e _ _ _ _ q n)
    go false q = (false, rw q, value_differs e _ _ _ _ q n)

arrays : Views after response_on changed answered (λ s. Unit) has_part part_of numbers_of
arrays = record {
  good = λ e s g. tt;
  ran = λ k e s g q. array_ran k e s;
  kept = array_kept;
  told = array_told;
  seen = λ e s u gs gu n. array_seen e s u n;
}

-- A conflict by the values (false), or by the temperatures (true).
abbrev pub ByParts : Bool → Cells → List Operation → List Operation → Type 0
ByParts temps s os ws = Differs changed answered (numbers_of temps s) (numbers_of temps s) (parts_of temps os) (parts_of temps ws)

pub by_arrays : (s : Cells) (os ws : List Operation) → Differs after response_on s s os ws ↔ (ByParts false s os ws ⊎ ByParts true s os ws)
by_arrays s os ws = let both = by_parts arrays s s os ws tt tt in ((λ d. there (both.0 d)), λ d. both.1 (back d))
  where
    there : (temps : Bool) × ByParts temps s os ws → ByParts false s os ws ⊎ ByParts true s os ws
    there (false, d) = inl d
    there (true, d) = inr d

    back : ByParts false s os ws ⊎ ByParts true s os ws → (temps : Bool) × ByParts temps s os ws
    back (inl d) = (false, d)
    back (inr d) = (true, d)

-- With kind 6 and without it, a conflict by numbers is the same.
six_answers : (e : Operation) (l k : List ℕ) → eqb e.kind 6 ≡ true → answered e l ≡ answered e k
unfolding answered
six_answers e l k q = six e _ (eqb-true e.kind 6 q) ∙ sym (six e _ (eqb-true e.kind 6 q))

not_six : (e : Operation) (l k : List ℕ) → (answered e l ≡ answered e k → ⊥) → has_part false e ≡ true
not_six e l k n = go (eqb e.kind 6) refl
  where
    go : (b : Bool) → eqb e.kind 6 ≡ b → not b ≡ true
    go true q = absurd (n (six_answers e l k q))
    go false q = refl

without_six : Views {K = Unit} changed answered changed answered (λ l. Unit) (λ _. has_part false) (λ _. part_of false) (λ _ l. l)
without_six = record {
  good = λ e l g. tt;
  ran = λ _ e l g q. refl;
  kept = λ _ e l q. six_keeps e l q;
  told = λ _ e l k q h. h;
  seen = λ e l k g h n. (tt, not_six e l k n, n);
}

pub whole : (l : List ℕ) (os ws : List Operation) → Differs changed answered l l os ws ↔ Differs changed answered l l (parts_of false os) (parts_of false ws)
whole l os ws = let p = by_parts without_six l l os ws tt tt in ((λ d. (p.0 d).1), λ d. p.1 (tt, d))
