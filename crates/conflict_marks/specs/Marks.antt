-- Internal: what the functions on marks promise. Not to be read for what a conflict is.
use Rattle.std.specs.Prelude.{ℕ, ◌+◌, ◌-◌, ◌<◌, ◌≤◌, ◌≡◌, Bool, true, false, cond, ◌||◌, List, [], ◌⊎◌, get_or, length, eqb}
use Rattle.operation.specs.declared.Operation.{Operation}
use Rattle.operation.specs.Operation.{value, value_response}

-- The value v is marked.
abbrev pub Has : List Bool → ℕ → Type 0
Has s v = get_or s v false ≡ true

-- Of the 768 places p only the 256 in the middle may be marked.
pub record Blank (p : List Bool) : Type 0 where
  pub long : length p ≡ 768
  pub middle : (x : ℕ) → Has p x → (256 ≤ x) × (x < 512)

-- The marks s in the middle of the places p.
pub record Laid (s p : List Bool) : Type 0 where
  pub long : length p ≡ 768
  pub has : (v : ℕ) → Has s v → Has p (v + 256)
  pub only : (x : ℕ) → Has p x → (v : ℕ) × (v < 256) × Has s v × (x ≡ v + 256)

-- The marks r are those of t, and those of the n places from `at` on.
pub record Joined (n at : ℕ) (p t r : List Bool) : Type 0 where
  pub long : length r ≡ 256
  pub kept : (v : ℕ) → Has t v → Has r v
  pub ran : (v : ℕ) → v < n → Has p (at + v) → Has r v
  pub only : (v : ℕ) → Has r v → Has t v ⊎ ((v < n) × Has p (at + v))

-- Kinds 4 and 5 set a value; kinds 3 and 6 leave every value as it is.
abbrev pub is_set : Operation → Bool
is_set e = eqb e.kind 4 || eqb e.kind 5

abbrev pub is_read : Operation → Bool
is_read e = eqb e.kind 3 || eqb e.kind 6

-- The same, or, where the operation is a set, its amount if anything is marked.
pub record Ran (e : Operation) (at : ℕ) (p t r : List Bool) : Type 0 where
  pub sets : is_set e ≡ true → (length r ≡ 256) × ((v : ℕ) → Has t v → Has r v) × ((v : ℕ) → v < 256 → Has p (256 + v) → Has r e.amount)
      × ((x : ℕ) → Has r x → Has t x ⊎ ((x ≡ e.amount) × ((v : ℕ) × (v < 256) × Has p (256 + v))))
  pub joins : is_set e ≡ false → Joined 256 at p t r

-- The place from which the operation moves marks to 0; 256, where it moves none.
unfoldable pub moved_from : Operation → Bool → ℕ
moved_from e moves = cond moves (cond (eqb e.kind 1) (256 - e.amount) (cond (eqb e.kind 2) (256 + e.amount) 256)) 256

-- The values whose response is that of u are those from lo up to hi.
pub record SameSpan (e : Operation) (u lo hi : ℕ) : Type 0 where
  pub low : lo ≤ 256
  pub high : hi ≤ 256
  pub same : (v : ℕ) → lo ≤ v → v < hi → value_response e v ≡ value_response e u
  pub only : (v : ℕ) → v < 256 → value_response e v ≡ value_response e u → (lo ≤ v) × (v < hi)

-- A value is marked, in the middle of the places p, whose response is not that of u.
abbrev pub Other : Operation → ℕ → List Bool → Type 0
Other e u p = (v : ℕ) × Has p (v + 256) × (value_response e v ≡ value_response e u → ⊥)

-- The marks r are those of t, and those that the operation makes of s.
pub record Moved (e : Operation) (s t r : List Bool) : Type 0 where
  pub long : length r ≡ 256
  pub kept : (v : ℕ) → Has t v → Has r v
  pub ran : (v : ℕ) → Has s v → Has r (value e v)
  pub only : (x : ℕ) → Has r x → Has t x ⊎ ((v : ℕ) × Has s v × (x ≡ value e v))

-- The marks at j, none past the end.
abbrev pub marks_at : List (List Bool) → ℕ → List Bool
marks_at l j = get_or l j []

-- Each of the first m + 1 marks with the operation run, or left out.
pub record Widened (m : ℕ) (e : Operation) (l r : List (List Bool)) : Type 0 where
  pub long : length r ≡ 33
  pub each : (j : ℕ) → j ≤ m → Moved e (marks_at l j) (marks_at l j) (marks_at r j)
