-- The eight bytes of an operation and back.
use Prim.Native.Nat.{ℕ, suc, ◌+◌, ◌*◌, ◌/◌, ◌%◌, ◌^◌, ◌<◌, ◌≤◌}
use mathlib.Core.Path.{◌≡◌, sym, ap, ◌∙◌}
use mathlib.Core.List.{List, [], ◌∷◌, ◌++◌, append_assoc}
use mathlib.Core.Bool.{true, ◌&&◌}
use native.Mathlib.Nat.{add-zero, add_assoc, div-one, div-div-eq-div-mul, div-add-mod'}
use native.Mathlib.Numerals.{add-one, add-two, add-three}
use native.Mathlib.Omega.{arith}
use borrow.Author.Tests.{leb-true}
use lib.Dec.{leb}
use lib.ListN.{length, get_or, take, drop}
use lib.Seq.{drop-cons, take-add, drop-drop, get_or-append-add}
use Rattle.slices.proofs.Laws.{and_yes}
use Rattle.slices.specs.Bytes.{big_endian, word, word_at}
use Rattle.operation.specs.declared.Operation.{Operation}
use Rattle.operation.specs.Operation.{op_bytes, op_at, op_ok}

-- ---- four-byte numbers
joined : (x a b c r₀ r₁ r₂ : ℕ) → a * 256 + r₀ ≡ x → b * 256 + r₁ ≡ a → c * 256 + r₂ ≡ b → c * 16777216 + r₂ * 65536 + r₁ * 256 + r₀ ≡ x
joined x a b c r₀ r₁ r₂ h₀ h₁ h₂ = omega arith

pub word_back : (x : ℕ) → x < 2 ^ 32 → word (x / 16777216 % 256) (x / 65536 % 256) (x / 256 % 256) (x / 1 % 256) ≡ x
word_back x h =
    let b : x / 65536 ≡ x / 256 / 256 = sym (div-div-eq-div-mul x 256 256) in
    let c : x / 16777216 ≡ x / 256 / 256 / 256 = sym (div-div-eq-div-mul x 65536 256) ∙ ap (λ (y : ℕ). y / 256) b in
    let t : x / 16777216 % 256 ≡ x / 256 / 256 / 256 = (let g : x / 16777216 < 256 = omega arith in let m : x / 16777216 % 256 ≡ x / 16777216 = omega arith in m ∙ c) in
    rw (t, b, div-one)
    (joined x (x / 256) (x / 256 / 256) (x / 256 / 256 / 256) (x % 256) (x / 256 % 256) (x / 256 / 256 % 256)
    (div-add-mod' x 256) (div-add-mod' (x / 256) 256) (div-add-mod' (x / 256 / 256) 256))

pub word_bytes : (a b c d : ℕ) → a < 256 → b < 256 → c < 256 → d < 256 → big_endian 4 (word a b c d) ≡ a ∷ b ∷ c ∷ d ∷ []
unfolding big_endian
word_bytes a b c d ha hb hc hd =
    let w : ℕ = a * 16777216 + b * 65536 + c * 256 + d in
    let p : w / 16777216 % 256 ≡ a = omega arith in
    let q : w / 65536 % 256 ≡ b = omega arith in
    let r : w / 256 % 256 ≡ c = omega arith in
    let s : w / 1 % 256 ≡ d = rw div-one (omega arith) in
    rw (p, q, r, s)

-- four elements of a list
pub four_at : (s : List ℕ) (i : ℕ) → i + 4 ≤ length s → take 4 (drop i s) ≡ get_or s i 0 ∷ get_or s (i + 1) 0 ∷ get_or s (i + 2) 0 ∷ get_or s (i + 3) 0 ∷ []
four_at s i h = rw (add-one, add-two, add-three, drop-cons s i 0 (omega arith), drop-cons s (suc i) 0 (omega arith), drop-cons s (suc (suc i)) 0 (omega arith), drop-cons s (suc (suc (suc i))) 0 (omega arith))

pub word_write : (s : List ℕ) (i : ℕ) → ((j : ℕ) → get_or s j 0 < 256) → i + 4 ≤ length s → big_endian 4 (word_at s i) ≡ take 4 (drop i s)
unfolding word_at
word_write s i b h = word_bytes (get_or s i 0) (get_or s (i + 1) 0) (get_or s (i + 2) 0) (get_or s (i + 3) 0) (b i) (b (i + 1)) (b (i + 2)) (b (i + 3)) ∙ sym (four_at s i h)

-- reading past a first part
pub get_skip : (xs s : List ℕ) (i n : ℕ) → get_or (xs ++ s) (length xs + i + n) 0 ≡ get_or s (i + n) 0
get_skip xs s i n = rw (add_assoc (length xs) i n) (get_or-append-add xs s (i + n) 0)

pub word-skip : (xs s : List ℕ) (i : ℕ) → word_at (xs ++ s) (length xs + i) ≡ word_at s i
unfolding word_at
word-skip xs s i = rw (get_or-append-add xs s i 0, get_skip xs s i 1, get_skip xs s i 2, get_skip xs s i 3)

pub op-skip : (xs s : List ℕ) (i : ℕ) → op_at (xs ++ s) (length xs + i) ≡ op_at s i
unfolding op_at
op-skip xs s i = rw (word-skip xs s i, get_skip xs s i 4, get_skip xs s i 5, get_skip xs s i 6, get_skip xs s i 7)

-- ---- the round trips
pub op_front : (e : Operation) (ys : List ℕ) → e.count < 2 ^ 32 → op_at (op_bytes e ++ ys) 0 ≡ e
unfolding op_at op_bytes big_endian word_at
op_front e ys h = λ i. record { count = word_back e.count h i; kind = e.kind; cell = e.cell; amount = e.amount; last = e.last }

-- what is written is read, wherever it stands
pub op_read_lem : (xs ys : List ℕ) (e : Operation) → e.count < 2 ^ 32 → op_at (xs ++ op_bytes e ++ ys) (length xs) ≡ e
op_read_lem xs ys e h =
    ap (λ (s : List ℕ). op_at s (length xs)) (append_assoc xs (op_bytes e) ys)
    ∙ ap (op_at (xs ++ (op_bytes e ++ ys))) (sym (add-zero (length xs)))
    ∙ op-skip xs (op_bytes e ++ ys) 0
    ∙ op_front e ys h

-- what is read is written
pub op_write : (s : List ℕ) (i : ℕ) → ((j : ℕ) → get_or s j 0 < 256) → i + 8 ≤ length s → op_bytes (op_at s i) ≡ take 8 (drop i s)
unfolding op_at op_bytes
op_write s i b h =
    let f : get_or s (i + 4) 0 ∷ get_or s (i + 5) 0 ∷ get_or s (i + 6) 0 ∷ get_or s (i + 7) 0 ∷ [] ≡ take 4 (drop (i + 4) s)
    = sym (rw (← add_assoc i 4 1, ← add_assoc i 4 2, ← add_assoc i 4 3) (four_at s (i + 4) (omega arith))) in
    rw (word_write s i b (omega arith), f, ← drop-drop 4 i s) (sym (take-add 4 4 (drop i s)))

-- what is read fits
pub word_fits : (s : List ℕ) (i : ℕ) → ((j : ℕ) → get_or s j 0 < 256) → word_at s i < 2 ^ 32
unfolding word_at
word_fits s i b = omega (arith, b i, b (i + 1), b (i + 2), b (i + 3))

pub op_fits : (s : List ℕ) (i : ℕ) → ((j : ℕ) → get_or s j 0 < 256) → (op_at s i).count < 2 ^ 32
unfolding op_at
op_fits s i b = word_fits s i b

-- ---- tests
-- an allowed operation fits
pub ok_fits : (e : Operation) → op_ok e ≡ true → e.count < 2 ^ 32
unfolding op_ok
ok_fits e h =
    let n : ℕ = e.count in
    let c : leb n 1000000 ≡ true = (and_yes (leb 1 n) _ (and_yes (leb 1 n && leb n 1000000) _ h).0).1 in
    let l : n ≤ 1000000 = leb-true n 1000000 c in
    omega arith
