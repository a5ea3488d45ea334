-- The padded message: whole blocks, and bytes where the message's are.
use mathlib.Core.Path.{◌≡◌, refl, ◌∙◌}
use mathlib.Core.List.{List, [], ◌∷◌, ◌++◌}
use mathlib.Core.Bool.{Bool, true, ◌&&◌, and_assoc, and-true}
use Prim.Native.Nat.{ℕ, zero, suc, ◌*◌, ◌/◌, ◌%◌, ◌^◌}
use native.Mathlib.Omega.{arith}
use borrow.Author.Tests.{lt-ltb}
use lib.ListN.{length, length-append}
use Rattle.slices.specs.Bytes.{all, big_endian}
use Rattle.sha256_pad.specs.Padding.{zero_count, padding, pad}
use Rattle.sha256_pad.specs.Inner.{count_of}
use Rattle.sha256_pad.proofs.Laws.{zeros, padding-length}
use Rattle.sha256_bytes.specs.Bytes.{bytes_of}
use Rattle.sha256.specs.Sha256.{is_byte, block_count, sha256}
use Rattle.sha256_core.specs.declared.State.{State}

pad-count : (m : List ℕ) → length (pad m) ≡ 64 * count_of (length m)
unfolding pad
pad-count m = length-append m (padding (length m)) ∙ padding-length (length m)

pub count_is : (m : List ℕ) → block_count m ≡ count_of (length m)
unfolding block_count
count_is m = omega (arith, pad-count m)

-- the padded message's length is 64 times the number of blocks used
pub pad-length : (m : List ℕ) → length (pad m) ≡ 64 * block_count m
pad-length m = rw count_is (pad-count m)

all_append : (p : ℕ → Bool) (s t : List ℕ) → all p (s ++ t) ≡ (all p s && all p t)
unfolding all
all_append p [] t = refl
all_append p (x ∷ s) t = rw (all_append p s t, and_assoc)

zeros_bytes : (n : ℕ) → all is_byte (zeros n) ≡ true
unfolding all
zeros_bytes zero = refl
zeros_bytes (suc n) = zeros_bytes n

pub big_endian_bytes : (n x : ℕ) → all is_byte (big_endian n x) ≡ true
unfolding all big_endian
big_endian_bytes zero x = refl
big_endian_bytes (suc n) x = rw (lt-ltb (x / 2 ^ (8 * n) % 256) 256 (omega arith), big_endian_bytes n x)

padding-bytes : (n : ℕ) → all is_byte (padding n) ≡ true
unfolding padding all
padding-bytes n = rw (all_append is_byte (zeros (zero_count n)) (big_endian 8 (8 * n)), zeros_bytes (zero_count n), big_endian_bytes 8 (8 * n))

-- the padded message's bytes fit exactly where the message's do
pub pad-bytes : (m : List ℕ) → all is_byte (pad m) ≡ all is_byte m
unfolding pad
pad-bytes m = rw (all_append is_byte m (padding (length m)), padding-bytes (length m)) (and-true (all is_byte m))

-- a digest has 32 bytes
bytes-length : (s : State) → length (bytes_of s) ≡ 32
unfolding bytes_of big_endian
bytes-length s = refl

pub sha256-length : (m : List ℕ) → length (sha256 m) ≡ 32
unfolding sha256
sha256-length m = bytes-length _

bytes-bytes : (s : State) → all is_byte (bytes_of s) ≡ true
unfolding bytes_of
bytes-bytes s =
    simp (all_append, big_endian_bytes)

pub sha256-bytes : (m : List ℕ) → all is_byte (sha256 m) ≡ true
unfolding sha256
sha256-bytes m = bytes-bytes _
