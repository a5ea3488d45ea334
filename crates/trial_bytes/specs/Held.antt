-- What the trial program holds of a line that is not yet whole.
use Rattle.std.specs.Prelude.{ℕ, ◌+◌, ◌≤◌, ◌<◌, ◌≡◌, List, [], ◌∷◌, ◌++◌, cond, leb, length, take, drop}

-- what is held of a line of which bytes s have come: a NUL byte in their place where they fill the buffer
unfoldable pub held_of : ℕ → List ℕ → List ℕ
held_of room s = cond (leb room (length s)) (0 ∷ []) s

-- the bytes held at the end of the input as a whole line: none where none are held
unfoldable pub last_line : List ℕ → List ℕ
last_line [] = []
last_line (c ∷ s) = c ∷ (s ++ (10 ∷ []))

-- the first n bytes of a buffer s were made a whole line: its first r bytes now
pub record Ends (s s' : List ℕ) (n r : ℕ) : Type 0 where
  pub line : take r s' ≡ last_line (take n s)
  pub few : r ≤ n + 1
  pub within : r ≤ length s

-- of a buffer s, n bytes from `from` on were kept: its first r bytes now, with room for more
pub record Keeps (s s' : List ℕ) (from n r : ℕ) : Type 0 where
  pub held : take r s' ≡ held_of (length s) (take n (drop from s))
  pub few : r ≤ n
  pub room : r < length s
