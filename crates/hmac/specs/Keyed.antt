-- Internal: what the inner functions return. No part of the definition of HMAC.
use Rattle.std.specs.Prelude.{List, ℕ}
use Rattle.sha256.specs.Inner.{after_block}
use Rattle.hmac.specs.declared.Keyed.{Keyed}
use Rattle.hmac.specs.Hmac.{block_key, xored}

-- the hash values after K XOR ipad and K XOR opad: RFC 2104, section 4, "the intermediate results of the compression function"
unfoldable pub keyed_of : List ℕ → Keyed
keyed_of key = record { inner = after_block (xored 0x36 (block_key key)); outer = after_block (xored 0x5c (block_key key)) }
