-- Checks in order: document 01, "The questions, in order".
use Rattle.std.specs.Prelude.{ℕ, zero, suc, List, [], ◌∷◌, Bool, true, false, cond, ◌&&◌, Result, Ok, Err}

-- whether each of the tests is a yes, after those so far
abbrev pub every : Bool → List Bool → Bool
every so_far [] = so_far
every so_far (b ∷ bs) = every (so_far && b) bs

-- "The first no decides."
-- one more check after those so far, each a test with its number: the number of the first no stays, and 0 says that there is none
abbrev pub also_no : ℕ → Bool × ℕ → ℕ
also_no zero q = cond q.0 0 q.1
also_no (suc n) q = suc n

-- the number of the first check answered no, after that so far
abbrev pub first_no : ℕ → List (Bool × ℕ) → ℕ
first_no n [] = n
first_no n (q ∷ qs) = first_no (also_no n q) qs

-- one check asked: go on, or stop with the reason of its no
abbrev pub asked : {E : Type 0} → Bool → E → Result Unit E
asked true e = Ok (record {})
asked false e = Err e
