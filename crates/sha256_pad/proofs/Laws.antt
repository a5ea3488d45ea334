-- The padding: its length, and the last blocks with it.
use mathlib.Core.Path.{◌≡◌, refl, ap, ◌∙◌}
use mathlib.Core.List.{List, ◌∷◌, ◌++◌, append_assoc}
use Prim.Native.Nat.{ℕ, zero, suc, ◌+◌, ◌-◌, ◌*◌, ◌/◌, ◌%◌, ◌≤◌}
use native.Mathlib.Omega.{arith}
use lib.ListN.{length, take, drop, set, replicate, length-append, length-replicate}
use lib.Seq.{take_at, set-append_seam, take-append-add}
use borrow.Rule.Slice.PartMut.{put_mid}
use Rattle.slices.specs.Bytes.{big_endian}
use Rattle.sha256_pad.specs.Padding.{zero_count, padding}
use Rattle.sha256_pad.specs.Inner.{count_of}

abbrev pub zeros : ℕ → List ℕ
zeros n = replicate n 0

pub zeros_length : (n : ℕ) → length (zeros n) ≡ n
zeros_length n = length-replicate {A = ℕ} n 0

pub big_endian_length : (n x : ℕ) → length (big_endian n x) ≡ n
unfolding big_endian
big_endian_length zero x = refl
big_endian_length (suc n) x = ap suc (big_endian_length n x)

pub padding-length : (n : ℕ) → n + length (padding n) ≡ 64 * count_of n
unfolding padding count_of
padding-length n =
    rw (length-append (zeros (zero_count n)) (big_endian 8 (8 * n)), zeros_length (zero_count n), big_endian_length 8 (8 * n)) (omega arith)

take_zeros : (n k : ℕ) → n ≤ k → take n (zeros k) ≡ zeros n
take_zeros zero k h = refl
take_zeros (suc n) zero h = absurd (omega arith)
take_zeros (suc n) (suc k) h = ap (λ (l : List ℕ). 0 ∷ l) (take_zeros n k (omega arith))

pub drop_zeros : (n k l : ℕ) → n + k ≡ l → drop n (zeros l) ≡ zeros k
drop_zeros zero k l e = let f : l ≡ k = omega arith in rw f
drop_zeros (suc n) k zero e = absurd (omega arith)
drop_zeros (suc n) k (suc l) e = drop_zeros n k l (omega arith)

-- the rest with the mark, in zeros
marked : (rest z : List ℕ) (k n : ℕ) → n ≤ k → drop (length rest) z ≡ zeros (suc k)
    → take (length rest + suc n) (set (rest ++ drop (length rest) z) (length rest) 0x80) ≡ rest ++ (0x80 ∷ zeros n)
marked rest z k n h e =
    rw (e, set-append_seam rest 0 (zeros k) 0x80, take-append-add rest (0x80 ∷ zeros k) (suc n), take_zeros n k h)

-- the length in bits put at the end of a block
ended : (rest bits b : List ℕ) (at k end n : ℕ) → take at b ≡ rest ++ (0x80 ∷ zeros n) → length bits ≡ 8 → length rest + suc n + 8 ≡ end
    → take end (put_mid at k b bits) ≡ rest ++ (0x80 ∷ (zeros n ++ bits))
ended rest bits b at k end n e g h =
    let p : List ℕ = rest ++ (0x80 ∷ zeros n) in
    let d : List ℕ = drop k (drop at b) in
    let l : length (p ++ bits) ≡ end = rw (length-append p bits, length-append rest (0x80 ∷ zeros n), zeros_length n) (omega arith) in
    rw (e, ← append_assoc p bits d, take_at (p ++ bits) d end l, append_assoc rest (0x80 ∷ zeros n) bits)

-- the buffer of the last blocks: zeros, the rest, the mark and the length in bits
pub last_is : (rest : List ℕ) (total k : ℕ) {b bits : List ℕ} → length rest ≡ total % 64
    → b ≡ rest
    → bits ≡ big_endian 8 (8 * total)
    → take (64 * count_of (length rest))
    (put_mid ((length rest + 8) / 64 * 64 + 56) k (set (b ++ drop (length rest) (zeros 128)) (length rest) 0x80) bits)
    ≡ rest ++ padding total
unfolding count_of padding
last_is rest total k {b} {bits} h q v =
    let n : ℕ = zero_count total in
    let j : ℕ = 127 - length rest in
    let z : List ℕ = zeros 128 in
    let at : (length rest + 8) / 64 * 64 + 56 ≡ length rest + suc n = omega arith in
    let f : drop (length rest) z ≡ zeros (suc j) = drop_zeros (length rest) (suc j) 128 (omega arith) in
    let g : take (length rest + suc n) (set (rest ++ drop (length rest) z) (length rest) 0x80) ≡ rest ++ (0x80 ∷ zeros n) = marked rest z j n (omega arith) f in
    let l : length bits ≡ 8 = ap length v ∙ big_endian_length 8 (8 * total) in
    rw (
      q,
      at,
      ended rest bits (set (rest ++ drop (length rest) z) (length rest) 0x80) (length rest + suc n) k (64 * ((length rest + 8) / 64 + 1)) n g l (omega arith),
      v,
    )
