-- Runs of blocks: what they read, and two of them joined.
use mathlib.Core.Path.{◌≡◌, refl, sym, ap, ap₂, ◌∙◌}
use mathlib.Core.List.{List, ◌++◌, append_assoc}
use Prim.Native.Nat.{ℕ, zero, suc, ◌+◌, ◌-◌, ◌*◌, ◌/◌, ◌%◌, ◌≤◌, ◌<◌}
use native.Mathlib.Nat.{add-zero, add-suc, add_assoc}
use native.Mathlib.Omega.{arith}
use lib.ListN.{length, take, drop, get_or, length-append, length-take, length-drop, take-append-drop}
use lib.Seq.{take_all, take_at, get_or-take, get_or-append-add}
use Rattle.slices.specs.Bytes.{word_at}
use Rattle.sha256_core.specs.declared.State.{State}
use Rattle.sha256_pad.specs.Padding.{padding, pad}
use Rattle.sha256_pad.specs.Inner.{count_of}
use Rattle.sha256_block.specs.Block.{words_at, compress_of}
use Rattle.sha256_bytes.specs.Bytes.{bytes_of}
use Rattle.sha256.specs.Sha256.{initial, hash_from, sha256}
use Rattle.sha256.specs.Inner.{rest_from, after_block}
use Rattle.sha256.proofs.Padding.{count_is}

word_same : (a b : List ℕ) (i k : ℕ) → get_or a i 0 ≡ get_or b k 0 → get_or a (i + 1) 0 ≡ get_or b (k + 1) 0
    → get_or a (i + 2) 0 ≡ get_or b (k + 2) 0
    → get_or a (i + 3) 0 ≡ get_or b (k + 3) 0
    → word_at a i ≡ word_at b k
unfolding word_at
word_same a b i k p q r s = cc

-- words are those of another list where the bytes are
words_same : (n : ℕ) (a b : List ℕ) (i k : ℕ) → ((j : ℕ) → j < 4 * n → get_or a (i + j) 0 ≡ get_or b (k + j) 0) → words_at n a i ≡ words_at n b k
unfolding words_at
words_same zero a b i k h = refl
words_same (suc n) a b i k h =
    let at : (d : ℕ) → d < 4 → get_or a (i + 4 * n + d) 0 ≡ get_or b (k + 4 * n + d) 0 =
    λ d g. rw (add_assoc i (4 * n) d, add_assoc k (4 * n) d) (h (4 * n + d) (omega arith)) in
    rw (
      words_same n a b i k (λ j g. h j (omega arith)),
      word_same a b (i + 4 * n) (k + 4 * n) (h (4 * n) (omega arith)) (at 1 (omega arith)) (at 2 (omega arith)) (at 3 (omega arith)),
    )

-- the first n blocks of a part
pub hash_take : (s : State) (n k : ℕ) (m : List ℕ) → 64 * n ≤ k → hash_from s n (take k m) ≡ hash_from s n m
unfolding hash_from
hash_take s zero k m h = refl
hash_take s (suc n) k m h =
    ap₂ compress_of (hash_take s n k m (omega arith)) (words_same 16 (take k m) m (64 * n) (64 * n) (λ j g. get_or-take k m (64 * n + j) 0 (omega arith)))

-- the blocks of p, then n blocks more
pub hash_add : (s : State) (q n : ℕ) (p t : List ℕ) → length p ≡ 64 * q → hash_from s (q + n) (p ++ t) ≡ hash_from (hash_from s q p) n t
unfolding hash_from
hash_add s q zero p t e = rw add-zero (sym (hash_take s q (64 * q) (p ++ t) (omega arith)) ∙ rw (take_at p t (64 * q) e))
hash_add s q (suc n) p t e =
    let at : (j : ℕ) → j < 64 → get_or (p ++ t) (64 * (q + n) + j) 0 ≡ get_or t (64 * n + j) 0 =
    λ j g. let f : 64 * (q + n) + j ≡ length p + (64 * n + j) = omega arith in rw (f, get_or-append-add p t (64 * n + j) 0) in
    rw add-suc (ap₂ compress_of (hash_add s q n p t e) (words_same 16 (p ++ t) t (64 * (q + n)) (64 * n) at))

pub count_add : (q n : ℕ) → count_of (64 * q + n) ≡ q + count_of n
unfolding count_of
count_add q n = omega arith

count-mod : (n : ℕ) → count_of n ≡ n / 64 + count_of (n % 64)
unfolding count_of
count-mod n = omega arith

-- the digest of whole blocks and a rest
pub digest_is : (q : ℕ) (p m : List ℕ) → length p ≡ 64 * q → sha256 (p ++ m) ≡ bytes_of (rest_from (hash_from initial q p) (64 * q) m)
unfolding sha256 pad rest_from
digest_is q p m e =
    rw (count_is (p ++ m), length-append p m, e, count_add q (length m), append_assoc p m (padding (64 * q + length m)))
    (ap bytes_of (hash_add initial q (count_of (length m)) p (m ++ padding (64 * q + length m)) e))

-- the digest of one block, then m
pub digest_from : (p m : List ℕ) {s : State} → length p ≡ 64 → s ≡ after_block p → bytes_of (rest_from s 64 m) ≡ sha256 (p ++ m)
unfolding after_block hash_from
digest_from p m l e = rw e (sym (digest_is 1 p m l))

-- the whole blocks of m, and then n blocks b that hold its rest with the padding
module _ (s : State) (before k : ℕ) (m b : List ℕ) where
  rest : List ℕ
  rest = take (length m - k) (drop k m)

  unfoldable split : List ℕ
  split = take k m ++ (rest ++ padding (before + length m))

  split_is : m ++ padding (before + length m) ≡ split
  unfolding split rest
  split_is =
      let e : take (length m - k) (drop k m) ≡ drop k m = take_all (length m - k) (drop k m) (rw (length-drop k m) (omega arith)) in
      rw (e, ← append_assoc (take k m) (drop k m) (padding (before + length m)), take-append-drop k m)

  pub rest-is : (n : ℕ) {q : State} → q ≡ hash_from s (length m / 64) m → k ≡ length m / 64 * 64 → count_of (length m % 64) ≡ n
      → take (64 * count_of (length (take (length m - k) (drop k m)))) b ≡ take (length m - k) (drop k m) ++ padding (before + length m)
      → hash_from q n b ≡ rest_from s before m
  unfolding rest_from split rest
  rest-is n {q} h e g l =
      let i : ℕ = length m / 64 in
      let r : length (take (length m - k) (drop k m)) ≡ length m % 64 = rw (length-take, length-drop) (omega arith) in
      let f : count_of (length m) ≡ i + n = count-mod (length m) ∙ ap (λ (x : ℕ). i + x) g in
      let o : length (take k m) ≡ 64 * i = rw length-take (omega arith) in
      let t : take (64 * n) b ≡ take (length m - k) (drop k m) ++ padding (before + length m) = rw (r, g) at l in
      let u : hash_from s i (take k m) ≡ q = hash_take s i k m (omega arith) ∙ sym h in
      sym (rw (f, split_is) (hash_add s i n (take k m) (take (length m - k) (drop k m) ++ padding (before + length m)) o ∙ rw (u, ← t) (hash_take q n (64 * n) b (omega arith))))
