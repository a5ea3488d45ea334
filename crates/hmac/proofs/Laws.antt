-- Keys as blocks, byte by byte, and the size of a tag.
use mathlib.Core.Path.{◌≡◌, refl, ap, ◌∙◌}
use mathlib.Core.List.{List, ◌++◌, append-nil}
use mathlib.Core.Bool.{Bool, true, false, cond}
use Prim.Native.Nat.{ℕ, ◌+◌, ◌-◌, ◌≤◌, ◌<◌}
use native.Mathlib.Omega.{arith}
use lib.Bits.{bit_xor}
use lib.Dec.{leb}
use lib.ListN.{length, get_or, set, take, drop, length-take, length-drop, drop_of_length-le, length-append, length-map, length-replicate}
use lib.Seq.{take_all}
use Rattle.std.proofs.lemmas.List.{get_or_default}
use Rattle.std.proofs.lemmas.List.Edits.{map_over_more}
use borrow.Author.Tests.{leb-true}
use Rattle.sha256.specs.Sha256.{sha256}
use Rattle.sha256_pad.proofs.Laws.{zeros, drop_zeros}
use Rattle.sha256.specs.Inner.{after_block}
use Rattle.sha256.proofs.Padding.{sha256-length}
use Rattle.hmac.specs.declared.Keyed.{Keyed}
use Rattle.hmac.specs.Hmac.{filled, block_key, xored, hmac}
use Rattle.hmac.specs.Keyed.{keyed_of}

-- a key copied into a block of zeros
pub filled_is : (k : List ℕ) {b : List ℕ} → length k ≤ 64 → b ≡ k → b ++ drop (length k) (zeros 64) ≡ filled k
unfolding filled
filled_is k h e = rw (e, drop_zeros (length k) (64 - length k) 64 (omega arith))

-- of r, the bytes before i done: as long as b, one byte more, all bytes
module _ (x i : ℕ) (b r : List ℕ) (e : r ≡ xored x (take i b) ++ drop i b) where
  xored_long : length r ≡ length b
  unfolding xored
  xored_long = ap length e ∙ simp (length-append, length-map, length-take, length-drop) (omega arith)

  pub xored_more : i < length r → set r i (bit_xor (get_or r i 0) x) ≡ xored x (take (i + 1) b) ++ drop (i + 1) b
  unfolding xored
  xored_more h = map_over_more (λ y. bit_xor y x) b r i (get_or r i 0) (omega (arith, h, xored_long)) e (get_or_default r i 0 (get_or r i 0) h)

  pub xored_all : length r ≤ i → r ≡ xored x b
  unfolding xored
  xored_all h = let g : length b ≤ i = omega (arith, xored_long, h) in e ∙ rw (take_all i b g, drop_of_length-le b g) (append-nil _)

pub hmac-length : (key m : List ℕ) → length (hmac key m) ≡ 32
unfolding hmac
hmac-length key m = sha256-length _

-- a key's block is a block
short : (key : List ℕ) (b : Bool) → leb (length key) 64 ≡ b → length (cond b key (sha256 key)) ≤ 64
short key true e = leb-true _ _ e
short key false e = omega (arith, sha256-length key)

pub block-length : (x : ℕ) (key : List ℕ) → length (xored x (block_key key)) ≡ 64
unfolding xored block_key filled
block-length x key =
    let h = short key (leb (length key) 64) refl in
    simp (length-map, length-append, length-replicate) (omega arith)

-- the tag in steps
module _ (key : List ℕ) {k : Keyed} (e : k ≡ keyed_of key) where
  pub inner_is : k.inner ≡ after_block (xored 0x36 (block_key key))
  unfolding keyed_of
  inner_is = rw e

  pub outer_is : k.outer ≡ after_block (xored 0x5c (block_key key))
  unfolding keyed_of
  outer_is = rw e

pub hmac_is : (key m : List ℕ) {d r : List ℕ} → d ≡ sha256 (xored 0x36 (block_key key) ++ m)
    → r ≡ sha256 (xored 0x5c (block_key key) ++ d)
    → r ≡ hmac key m
unfolding hmac
hmac_is key m p q = rw (q, p)
