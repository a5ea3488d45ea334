-- Internal: what the inner functions return. No part of the definition of SHA-256.
use Rattle.std.specs.Prelude.{ℕ, ◌+◌, ◌/◌}

-- how many blocks n bytes and their padding have
unfoldable pub count_of : ℕ → ℕ
count_of n = (n + 8) / 64 + 1
