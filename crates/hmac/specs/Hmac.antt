-- HMAC with SHA-256: RFC 2104, section 2, with blocks of B = 64 bytes; and document 01's numbers for a tag.
use Rattle.std.specs.Prelude.{List, ◌++◌, map, Bool, cond, ◌&&◌, ℕ, ◌-◌, length, replicate, leb}
use Rattle.std.specs.Int.Bits.{bit_xor}
use Rattle.sha256.specs.Sha256.{sha256, within_limit}

-- step (1): zeros appended up to a block
unfoldable pub filled : List ℕ → List ℕ
filled k = k ++ replicate (64 - length k) 0

-- the key as a block: "Applications that use keys longer than B bytes will first hash the key using H"
unfoldable pub block_key : List ℕ → List ℕ
block_key key = filled (cond (leb (length key) 64) key (sha256 key))

-- steps (2) and (5): each byte XORed with x
unfoldable pub xored : ℕ → List ℕ → List ℕ
xored x k = map (λ b. bit_xor b x) k

-- H(K XOR opad, H(K XOR ipad, text)), ipad of bytes 0x36 and opad of bytes 0x5C
unfoldable pub hmac : List ℕ → List ℕ → List ℕ
hmac key m = sha256 (xored 0x5c (block_key key) ++ sha256 (xored 0x36 (block_key key) ++ m))

-- document 01, the questions: "Digest and tag: input, and the tag's key, each at most 65,535 bytes?"
abbrev pub both_allowed : List ℕ → List ℕ → Bool
both_allowed key m = within_limit m && within_limit key

-- the number of the call on a key and m
abbrev pub tag_no : List ℕ → List ℕ → ℕ
tag_no key m = cond (both_allowed key m) 0 9

-- the bytes lent for the tag, after the call on a key and m: the tag, or as they were
unfoldable pub tag_out : List ℕ → List ℕ → List ℕ → List ℕ
tag_out key m out = cond (both_allowed key m) (hmac key m) out
