-- SHA-256: FIPS 180-4, sections 5.2.1, 5.3.3 and 6.2, on messages of whole bytes; and document 01's numbers for a digest.
use Rattle.std.specs.Prelude.{List, Bool, cond, Result, Ok, Err, ⊤, ℕ, zero, suc, ◌*◌, ◌/◌, length, leb, ltb}
use Rattle.sha256_core.specs.declared.State.{State}
use Rattle.sha256_pad.specs.Padding.{pad}
use Rattle.sha256_block.specs.Block.{words_at, compress_of}
use Rattle.sha256_bytes.specs.Bytes.{bytes_of}
use Rattle.sha256.specs.declared.TooLong.{TooLong}

-- a message is a list of bytes
abbrev pub is_byte : ℕ → Bool
is_byte x = ltb x 256

-- 5.2.1: the number N of blocks of 64 bytes in the padded message
unfoldable pub block_count : List ℕ → ℕ
block_count m = length (pad m) / 64

-- 5.3.3: the initial hash value
unfoldable pub initial : State
initial =
    record {
      a = 0x6a09_e667;
      b = 0xbb67_ae85;
      c = 0x3c6e_f372;
      d = 0xa54f_f53a;
      e = 0x510e_527f;
      f = 0x9b05_688c;
      g = 0x1f83_d9ab;
      h = 0x5be0_cd19;
    }

-- 6.2.2: the hash value after n blocks of m, from s
unfoldable pub hash_from : State → ℕ → List ℕ → State
hash_from s zero m = s
hash_from s (suc n) m = compress_of (hash_from s n m) (words_at 16 m (64 * n))

-- 6.2: the digest of a message
unfoldable pub sha256 : List ℕ → List ℕ
sha256 m = bytes_of (hash_from initial (block_count m) (pad m))

-- document 01, the questions: "input ... at most 65,535 bytes?"
abbrev pub within_limit : List ℕ → Bool
within_limit m = leb (length m) 65535

-- the paper's number of an outcome of a digest or a tag: 0 for a success, 9 for the refusal
abbrev pub outcome_no : Result ⊤ TooLong → ℕ
outcome_no (Ok _) = 0
outcome_no (Err _) = 9

-- the number of the call on m
abbrev pub digest_no : List ℕ → ℕ
digest_no m = cond (within_limit m) 0 9

-- the bytes lent for the digest, after the call on m: the digest, or as they were
unfoldable pub digest_out : List ℕ → List ℕ → List ℕ
digest_out m out = cond (within_limit m) (sha256 m) out
