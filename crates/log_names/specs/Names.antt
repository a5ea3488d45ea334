-- A name among fields: document 02, Q-5.
use Rattle.std.specs.Prelude.{ℕ, ◌+◌, List, [], ◌∷◌, cond}
use Rattle.slices.specs.Bytes.{same}

-- how often a name stands among fields, "unquoted and byte for byte"
unfoldable pub times : List ℕ → List (List ℕ) → ℕ
times name [] = 0
times name (f ∷ fs) = cond (same f name) 1 0 + times name fs

-- where it stands first (past all of them, if nowhere)
unfoldable pub column : List ℕ → List (List ℕ) → ℕ
column name [] = 0
column name (f ∷ fs) = cond (same f name) 0 (column name fs + 1)
