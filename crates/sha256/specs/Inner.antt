-- Internal: what the inner functions return. No part of the definition of SHA-256.
use Rattle.std.specs.Prelude.{List, ◌++◌, ℕ, ◌+◌, length}
use Rattle.sha256_core.specs.declared.State.{State}
use Rattle.sha256_pad.specs.Padding.{padding}
use Rattle.sha256_pad.specs.Inner.{count_of}
use Rattle.sha256_block.specs.Block.{words_at, compress_of}
use Rattle.sha256.specs.Sha256.{initial, hash_from}

-- the hash value of a message whose first `before` bytes, in whole blocks, led to s, and whose rest is m
unfoldable pub rest_from : State → ℕ → List ℕ → State
rest_from s before m = hash_from s (count_of (length m)) (m ++ padding (before + length m))

-- the hash value after one block
unfoldable pub after_block : List ℕ → State
after_block p = compress_of initial (words_at 16 p 0)
