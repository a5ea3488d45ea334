-- The starred cases of document 01, with the responses of document 02, Q-1, and cases of Q-2, as one table with one proof.
use Prim.Native.Nat.{ℕ}
use mathlib.Core.Path.{◌≡◌, refl, sym, ap₂}
use mathlib.Core.Bool.{Bool, true, false, not, ◌&&◌}
use mathlib.Core.List.{List, [], ◌∷◌, map, flat_map}
use mathlib.Core.Logic.{◌↔◌}
use native.Mathlib.Omega.{arith}
use lib.IntN.{pos, negsuc}
use lib.ListN.{replicate}
use Rattle.operation.specs.declared.Operation.{Operation}
use Rattle.operation.specs.declared.Cells.{Cells}
use Rattle.operation.specs.Operation.{Response, signed, value, temp, value_response, response, after, response_on}
use Rattle.conflict.specs.Conflict.{Conflict, responses, insertions, interleavings, same_responses, some, conflicts}
use Rattle.conflict_marks.proofs.Stored.{clash}
use Rattle.conflict.proofs.Meaning.{like, conflicts_iff}

op_add : ℕ → ℕ → Operation
op_add cell amount = record { count = 1; kind = 1; cell = cell; amount = amount; last = 0 }

op_take : ℕ → ℕ → Operation
op_take cell amount = record { count = 1; kind = 2; cell = cell; amount = amount; last = 0 }

op_read : ℕ → Operation
op_read cell = record { count = 1; kind = 3; cell = cell; amount = 0; last = 0 }

op_set : ℕ → ℕ → Operation
op_set cell amount = record { count = 1; kind = 4; cell = cell; amount = amount; last = 0 }

-- A value with a temperature, and a temperature asked for.
op_report : ℕ → ℕ → ℕ → Operation
op_report cell amount last = record { count = 1; kind = 5; cell = cell; amount = amount; last = last }

op_temp : ℕ → Operation
op_temp cell = record { count = 1; kind = 6; cell = cell; amount = 0; last = 0 }

-- Cell 0 holds v and has the temperature t, a byte, the others 0.
warm : ℕ → ℕ → Cells
warm v t = record { values = v ∷ replicate 15 0; temps = t ∷ replicate 15 0 }

cells : ℕ → Cells
cells v = warm v 0

-- runs: the cells, the operation, its response, the cells after it. tests: the cells, the others' operations, the own ones, whether they conflict.
data Case : Type 0 where
  runs : Cells → Operation → Response → Cells → Case
  tests : Cells → List Operation → List Operation → Bool → Case

table : List Case
table =
    runs (cells 250) (op_add 0 5) (pos 1) (cells 255)
    ∷ runs (cells 250) (op_add 0 6) (pos 506) (cells 250)
    ∷ runs (cells 7) (op_take 0 7) (pos 1) (cells 0)
    ∷ runs (cells 7) (op_take 0 8) (pos 263) (cells 7)
    ∷ tests (cells 7) (op_add 0 3 ∷ []) (op_take 0 5 ∷ []) false
    ∷ tests (cells 7) (op_add 0 3 ∷ []) (op_take 0 5 ∷ op_take 0 4 ∷ []) true
    ∷ tests (cells 7) (op_take 0 2 ∷ op_take 0 1 ∷ []) (op_take 0 5 ∷ []) true
    ∷ tests (cells 7) (op_add 0 3 ∷ op_take 0 4 ∷ []) (op_take 0 5 ∷ []) true
    ∷ tests (cells 7) (op_set 0 7 ∷ []) (op_read 0 ∷ []) false
    ∷ tests (cells 7) (op_set 0 9 ∷ []) (op_read 0 ∷ []) true
    ∷ tests (cells 7) (op_add 1 3 ∷ op_take 1 2 ∷ op_set 1 9 ∷ []) (op_read 0 ∷ []) false
    ∷ tests (cells 7) [] (op_take 0 5 ∷ op_take 0 4 ∷ op_read 0 ∷ []) false
    -- Q-1: an own take that fails, with and without another's take, tells the two values apart; a set to the same value does not
    ∷ tests (cells 7) (op_take 0 2 ∷ []) (op_take 0 8 ∷ []) true
    ∷ tests (cells 7) (op_set 0 7 ∷ []) (op_take 0 8 ∷ []) false
    -- Q-2: kind 5 sets both and answers 1; kind 6 answers −40 for the byte 216, and 85
    ∷ runs (cells 7) (op_report 0 9 216) (pos 1) (warm 9 216)
    ∷ runs (cells 7) (op_report 0 9 85) (pos 1) (warm 9 85)
    ∷ runs (warm 7 216) (op_temp 0) (negsuc 39) (warm 7 216)
    ∷ runs (warm 7 85) (op_temp 0) (pos 85) (warm 7 85)
    -- another's kind 5 with another temperature only, with the same one, on another cell, and before an own kind 5's temperature is asked for; another's set
    ∷ tests (warm 7 20) (op_report 0 7 216 ∷ []) (op_temp 0 ∷ []) true
    ∷ tests (warm 7 216) (op_report 0 9 216 ∷ []) (op_temp 0 ∷ []) false
    ∷ tests (warm 7 20) (op_report 1 7 216 ∷ []) (op_temp 0 ∷ []) false
    ∷ tests (warm 7 20) (op_report 0 9 216 ∷ []) (op_report 0 9 85 ∷ op_temp 0 ∷ []) true
    ∷ tests (warm 7 20) (op_set 0 9 ∷ []) (op_temp 0 ∷ []) false
    -- another's kind 5 with the same value, and with another, against an own read; it is a set, since an add of 250 would fail at 7
    ∷ tests (warm 7 20) (op_report 0 7 216 ∷ []) (op_read 0 ∷ []) false
    ∷ tests (warm 7 20) (op_report 0 9 20 ∷ []) (op_read 0 ∷ []) true
    ∷ tests (warm 7 20) (op_report 0 250 20 ∷ []) (op_add 0 6 ∷ []) true
    ∷ []

-- What a row says.
Holds : Case → Type 0
Holds (runs s e r u) = (response_on e s ≡ r) × (after e s ≡ u)
Holds (tests s others mine b) = (b ≡ true) ↔ Conflict s others mine

All : List Case → Type 0
All [] = Unit
All (c ∷ cs) = Holds c × All cs

-- The same, computed.
same : Bool → Bool → Bool
same true b = b
same false b = not b

same_numbers : List ℕ → List ℕ → Bool
same_numbers xs ys = same_responses (map pos xs) (map pos ys)

right : Case → Bool
right (runs s e r u) = same_responses (response_on e s ∷ []) (r ∷ []) && (same_numbers (after e s).values u.values && same_numbers (after e s).temps u.temps)
right (tests s others mine b) = same b (conflicts s others mine)

every : List Case → Bool
every [] = true
every (c ∷ cs) = right c && every cs

is_same : (a b : Bool) → same a b ≡ true → a ≡ b
unfolding same
is_same true b e = sym e
is_same false true e = absurd (clash refl e)
is_same false false e = refl

both : (a b : Bool) → (a && b) ≡ true → (a ≡ true) × (b ≡ true)
both true b e = (refl, e)
both false b e = absurd (clash refl e)

not-not : (b : Bool) → b ≡ true → not b ≡ false
not-not true e = refl
not-not false e = absurd (clash refl e)

numbers : (xs ys : List ℕ) → map pos xs ≡ map pos ys → xs ≡ ys
numbers [] [] e = refl
numbers [] (y ∷ ys) e = absurd (let z : ◌≡◌ {A = ℕ} 0 1 = cc in omega arith)
numbers (x ∷ xs) [] e = absurd (let z : ◌≡◌ {A = ℕ} 0 1 = cc in omega arith)
numbers (x ∷ xs) (y ∷ ys) e =
    let h : x ≡ y = cc in let t : map pos xs ≡ map pos ys = cc in ap₂ ◌∷◌ h (numbers xs ys t)

same_numbers_lem : (xs ys : List ℕ) → same_numbers xs ys ≡ true → xs ≡ ys
unfolding same_numbers
same_numbers_lem xs ys e = numbers xs ys (like _ _ (not-not _ e))

holds : (c : Case) → right c ≡ true → Holds c
unfolding right Holds
holds (runs s e r u) h =
    let (p, q) = both (same_responses (response_on e s ∷ []) (r ∷ [])) (same_numbers (after e s).values u.values && same_numbers (after e s).temps u.temps) h in
    let (v, t) = both (same_numbers (after e s).values u.values) (same_numbers (after e s).temps u.temps) q in
    let a : response_on e s ∷ [] ≡ r ∷ [] = like _ _ (not-not _ p) in
    let b : response_on e s ≡ r = cc in
    let x = same_numbers_lem _ _ v in
    let y = same_numbers_lem _ _ t in (b, ap₂ (λ values temps. record { values = values; temps = temps }) x y)
holds (tests s others mine b) h = rw (is_same b _ h) (conflicts_iff s others mine)

all_hold : (cs : List Case) → every cs ≡ true → All cs
unfolding All every
all_hold [] h = tt
all_hold (c ∷ cs) h = go (right c) refl h (λ e. all_hold cs e)
  where
    go : (b : Bool) → right c ≡ b → (b && every cs) ≡ true → (every cs ≡ true → All cs) → Holds c × All cs
    go true q e f = (holds c q, f e)
    go false q e f = absurd (clash refl e)

cases : All table
unfolding every right same same_numbers table op_add op_take op_read op_set op_report op_temp warm cells conflicts some interleavings insertions flat_map same_responses responses after response_on value temp value_response response signed
cases = all_hold table refl
