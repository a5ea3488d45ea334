-- Laws of checks in order. Assumes nothing.
use Prim.Native.Nat.{ℕ, zero, suc}
use mathlib.Core.Path.{◌≡◌, refl, sym}
use mathlib.Core.List.{List, [], ◌∷◌, ◌++◌}
use mathlib.Core.Bool.{Bool, true, false, cond, ◌&&◌, true≢false}
use lib.Dec.{eqb}
use native.Mathlib.Omega.{arith}
use borrow.Author.Tests.{eqb-true, ne_eqb}
pub use Rattle.slices.proofs.Laws.{and_yes}
use Rattle.checks.specs.Checks.{every, also_no, first_no}

-- ---- by the cases of a test
pub cond_cases : {A : Type 0} (P : A → Type 0) (t : Bool) (a b : A) → (t ≡ true → P a) → (t ≡ false → P b) → P (cond t a b)
cond_cases P true a b f g = f refl
cond_cases P false a b f g = g refl

-- a call goes where its number is 0, else stops
pub call_cases : {A : Type 0} (P : A → Type 0) (n : ℕ) (a b : A) → (n ≡ 0 → P a) → P b → P (cond (eqb n 0) a b)
call_cases P n a b f g = cond_cases P (eqb n 0) a b (λ e. f (eqb-true n 0 e)) (λ e. g)

-- ---- checks in order
-- each check has a yes
abbrev pub Yes : List (Bool × ℕ) → Type 0
Yes [] = Unit {0}
Yes (q ∷ qs) = (q.0 ≡ true) × Yes qs

-- each check has a number other than 0
abbrev pub Numbered : List (Bool × ℕ) → Type 0
Numbered [] = Unit {0}
Numbered (q ∷ qs) = (eqb q.1 0 ≡ false) × Numbered qs

also_yes : (n : ℕ) (q : Bool × ℕ) → eqb q.1 0 ≡ false → also_no n q ≡ 0 → (n ≡ 0) × (q.0 ≡ true)
also_yes zero (true, m) k e = (refl, refl)
also_yes zero (false, m) k e = let z : true ≡ false = rw e at k in absurd (true≢false z)
also_yes (suc n) q k e = absurd (omega (arith, e))

-- a no stays, whatever is asked after it
pub also_stays : (n : ℕ) (q : Bool × ℕ) → eqb n 0 ≡ false → also_no n q ≡ n
also_stays zero q h = absurd (true≢false h)
also_stays (suc n) q h = refl

pub first_stays : (n : ℕ) (qs : List (Bool × ℕ)) → eqb n 0 ≡ false → first_no n qs ≡ n
first_stays n [] h = refl
first_stays n (q ∷ qs) h = rw (also_stays n q h) (first_stays n qs h)

pub first_append : (n : ℕ) (xs ys : List (Bool × ℕ)) → first_no n (xs ++ ys) ≡ first_no (first_no n xs) ys
first_append n [] ys = refl
first_append n (x ∷ xs) ys = first_append (also_no n x) xs ys

pub first_zero : (n : ℕ) (qs : List (Bool × ℕ)) → first_no n qs ≡ 0 → n ≡ 0
first_zero zero qs e = refl
first_zero (suc n) qs e = absurd (omega (arith, e, first_stays (suc n) qs (ne_eqb (suc n) 0 (λ z. omega arith))))

-- where no check has a no, each has a yes
pub all_yes : (n : ℕ) (qs : List (Bool × ℕ)) → Numbered qs → first_no n qs ≡ 0 → (n ≡ 0) × Yes qs
all_yes n [] k e = (e, tt)
all_yes n (q ∷ qs) k e =
    let r = all_yes (also_no n q) qs k.1 e in
    let h = also_yes n q k.0 r.0 in
    (h.0, (h.1, r.1))

-- the first no is one of the numbers: where each number passes a test, so does it
abbrev pub Among : (ℕ → Bool) → List (Bool × ℕ) → Type 0
Among p [] = Unit {0}
Among p (q ∷ qs) = (p q.1 ≡ true) × Among p qs

pub among_append : (p : ℕ → Bool) (xs ys : List (Bool × ℕ)) → Among p xs → Among p ys → Among p (xs ++ ys)
among_append p [] ys a b = b
among_append p (x ∷ xs) ys a b = (a.0, among_append p xs ys a.1 b)

also_among : (p : ℕ → Bool) (n : ℕ) (q : Bool × ℕ) → (eqb n 0 ≡ false → p n ≡ true) → p q.1 ≡ true → eqb (also_no n q) 0 ≡ false → p (also_no n q) ≡ true
also_among p zero (true, m) h k e = absurd (true≢false e)
also_among p zero (false, m) h k e = k
also_among p (suc n) q h k e = h e

pub first_among : (p : ℕ → Bool) (n : ℕ) (qs : List (Bool × ℕ)) → (eqb n 0 ≡ false → p n ≡ true) → Among p qs → eqb (first_no n qs) 0 ≡ false → p (first_no n qs) ≡ true
first_among p n [] h a e = h e
first_among p n (q ∷ qs) h a e = first_among p (also_no n q) qs (λ z. also_among p n q h a.0 z) a.1 e

-- ---- several tests
-- each test has a yes
abbrev pub Each : List Bool → Type 0
Each [] = Unit {0}
Each (b ∷ bs) = (b ≡ true) × Each bs

pub every_yes : (a : Bool) (bs : List Bool) → every a bs ≡ true → (a ≡ true) × Each bs
every_yes a [] e = (e, tt)
every_yes a (b ∷ bs) e =
    let r = every_yes (a && b) bs e in
    let h = and_yes a b r.0 in
    (h.0, (h.1, r.1))

pub every-each : (bs : List Bool) → Each bs → every true bs ≡ true
every-each [] e = refl
every-each (true ∷ bs) e = every-each bs e.1
every-each (false ∷ bs) e = absurd (true≢false (sym e.0))
