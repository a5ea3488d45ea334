-- Each message read back from its bytes, and its bytes from what was read; the strings show their fields.
use Prim.Native.Nat.{ℕ, zero, suc, ◌+◌, ◌*◌, ◌^◌, ◌<◌, ◌≤◌}
use mathlib.Core.Path.{◌≡◌, refl, sym, ap, ◌∙◌}
use mathlib.Core.List.{List, [], ◌∷◌, ◌++◌, append-nil, append_assoc}
use mathlib.Core.Bool.{true, ◌&&◌}
use lib.Dec.{leb, eqb}
use lib.ListN.{length, get_or, take, drop, replicate, length-append, length-take, length-drop}
use lib.Seq.{take_at, drop_at, get_or_at, take_all, take-add, take-length, take-suc, drop-drop, drop-cons, drop-append-add, split_at, length-take-le}
use native.Mathlib.Nat.{add-zero, add_assoc}
use native.Mathlib.Numerals.{add-one}
use native.Mathlib.Omega.{arith}
use borrow.Author.Tests.{eqb-true, le-leb, eq-eqb}
use Rattle.slices.specs.Bytes.{big_endian, word_at}
use Rattle.operation.specs.declared.Operation.{Operation}
use Rattle.operation.specs.Operation.{op_bytes, op_at}
use Rattle.round_trips.proofs.Operations.{word_back, word_write, get_skip, op-skip, op_front, op_read_lem, op_write, op_fits, word_fits}
use Rattle.slices.proofs.Laws.{and_yes}
use Rattle.message.specs.declared.Item.{Item}
use Rattle.message.specs.declared.Commit.{Commit}
use Rattle.message.specs.Layout.{invoke_mark, reply_mark}
use Rattle.message.specs.Readers.{ItemFits, CommitFits, ItemsFit, none, more, no_item}
use Rattle.message.specs.Message.{invoke_string, commit_string, chain_string, item_bytes, items_bytes, commit_fields, invoke_bytes, reply_bytes, commit_bytes, broadcast_bytes, marked, is_invoke, is_reply, is_commit, is_broadcast, item_at, commit_of, reply_count, reply_item, reply_items}
use Rattle.message.proofs.Laws.{items_join, items_more, items_length_lem, invoke-bytes-length, commit_bytes-length, broadcast-bytes-length, reply-bytes-length, commit_tagged, invoke_item, commit_marked, fields_are, invoke_length_lem, commit_length_lem, broadcast-length, reply-length, invoke_mark_lem, commit_mark_lem, broadcast_mark_lem, reply_mark_lem}

-- ---- what is written is read
pub item_skip : (xs s : List ℕ) (i : ℕ) → item_at (xs ++ s) (length xs + i) ≡ item_at s i
unfolding item_at
item_skip xs s i = rw (op-skip xs s i, get_skip xs s i 8, add_assoc (length xs) i 9, drop-append-add xs s (i + 9))

item_front : (i : Item) (ys : List ℕ) → ItemFits i → item_at (item_bytes i ++ ys) 0 ≡ i
unfolding item_at item_bytes op_bytes big_endian
item_front i ys f = λ j. record { op = op_front i.op (i.author ∷ i.tag ++ ys) f.count j; author = i.author; tag = take_at i.tag ys 32 f.tag j }

pub item_read : (xs ys : List ℕ) (i : Item) → ItemFits i → item_at (xs ++ item_bytes i ++ ys) (length xs) ≡ i
item_read xs ys i f =
    ap (λ (s : List ℕ). item_at s (length xs)) (append_assoc xs (item_bytes i) ys)
    ∙ ap (item_at (xs ++ (item_bytes i ++ ys))) (sym (add-zero (length xs)))
    ∙ item_skip xs (item_bytes i ++ ys) 0
    ∙ item_front i ys f

parts_read : (a b : ℕ) (k : Commit) → CommitFits k
    → commit_of (a ∷ b ∷ op_bytes k.op ++ (k.author ∷ big_endian 4 k.seq) ++ k.digest ++ (k.status ∷ k.tag)) ≡ k
unfolding commit_of op_bytes big_endian word_at
parts_read a b k f =
    let t : List ℕ = k.digest ++ (k.status ∷ k.tag) in
    let d : take 32 t ≡ k.digest = take_at k.digest (k.status ∷ k.tag) 32 f.digest in
    let s : get_or t 32 0 ≡ k.status = get_or_at k.digest k.status k.tag 0 32 f.digest in
    let g : drop 33 t ≡ k.tag = sym (drop-drop 1 32 t) ∙ ap (drop 1) (drop_at k.digest (k.status ∷ k.tag) 32 f.digest) in
    let r : take 32 (drop 33 t) ≡ k.tag = ap (take 32) g ∙ take_all 32 k.tag (let l = f.tag in omega arith) in
    λ j. record { op = op_read_lem (a ∷ b ∷ []) (k.author ∷ big_endian 4 k.seq ++ t) k.op f.count j; author = k.author; seq = word_back k.seq f.seq j; digest = d j; status = s j; tag = r j }

fields_read : (a b : ℕ) (k : Commit) → CommitFits k → commit_of (a ∷ b ∷ commit_fields k) ≡ k
fields_read a b k f = ap (λ (s : List ℕ). commit_of (a ∷ b ∷ s)) (fields_are k) ∙ parts_read a b k f

mark_yes : (a b : ℕ) (s : List ℕ) → marked (a ∷ b ∷ []) (a ∷ b ∷ s) ≡ true
unfolding marked
mark_yes a b s = rw (le-leb 2 (suc (suc (length s))) (omega arith), eq-eqb a a refl, eq-eqb b b refl)

is_yes : (a b n : ℕ) (s : List ℕ) → length (a ∷ b ∷ s) ≡ n → (marked (a ∷ b ∷ []) (a ∷ b ∷ s) && eqb (length (a ∷ b ∷ s)) n) ≡ true
is_yes a b n s h = rw (mark_yes a b s, eq-eqb _ _ h)

pub invoke_yes : (i : Item) → ItemFits i → is_invoke (invoke_bytes i) ≡ true
unfolding is_invoke
invoke_yes i f = rw (invoke_item i) (is_yes _ _ 43 (item_bytes i) (ap length (sym (invoke_item i)) ∙ invoke-bytes-length i f.tag))

pub invoke_read : (i : Item) → ItemFits i → item_at (invoke_bytes i) 2 ≡ i
invoke_read i f = ap (λ (s : List ℕ). item_at s 2) (invoke_item i) ∙ ap (λ (s : List ℕ). item_at (invoke_mark ++ s) 2) (sym (append-nil (item_bytes i))) ∙ item_read invoke_mark [] i f

pub commit_yes : (k : Commit) → CommitFits k → is_commit (commit_bytes k) ≡ true
unfolding is_commit
commit_yes k f = rw (commit_marked k) (is_yes _ _ 80 (commit_fields k) (ap length (sym (commit_marked k)) ∙ commit_bytes-length k f.digest f.tag))

pub commit_read : (k : Commit) → CommitFits k → commit_of (commit_bytes k) ≡ k
commit_read k f = ap commit_of (commit_marked k) ∙ fields_read _ _ k f

pub broadcast_yes : (k : Commit) → CommitFits k → is_broadcast (broadcast_bytes k) ≡ true
unfolding is_broadcast broadcast_bytes
broadcast_yes k f = is_yes _ _ 80 (commit_fields k) (broadcast-bytes-length k f.digest f.tag)

pub broadcast_read : (k : Commit) → CommitFits k → commit_of (broadcast_bytes k) ≡ k
unfolding broadcast_bytes
broadcast_read k f = fields_read _ _ k f

-- ---- replies
fits-take : {is : List Item} (k : ℕ) → ItemsFit is → ItemsFit (take k is)
fits-take zero fs = none
fits-take (suc k) none = none
fits-take (suc k) (more f fs) = more f (fits-take k fs)

fits_at : {is : List Item} (d : Item) (k : ℕ) → ItemsFit is → k < length is → ItemFits (get_or is k d)
fits_at d k none h = absurd (omega arith)
fits_at d zero (more f fs) h = f
fits_at d (suc k) (more f fs) h = fits_at d k fs (omega arith)

pub reply_yes : (is : List Item) → length is ≤ 32 → ItemsFit is → is_reply (reply_bytes is) ≡ true
unfolding is_reply reply_bytes
reply_yes is h fs = rw (mark_yes _ _ (length is ∷ items_bytes is), le-leb 3 (suc (suc (suc (length (items_bytes is))))) (omega arith), le-leb (length is) 32 h, eq-eqb _ _ (reply-bytes-length fs))

-- item k of a reply
module _ (is : List Item) (fs : ItemsFit is) (d : Item) where
  reply_item_lem : (k : ℕ) → k < length is → reply_item (reply_bytes is) k ≡ get_or is k d
  unfolding reply_bytes items_bytes
  reply_item_lem k h =
      let x : Item = get_or is k d in
      let p : List ℕ = items_bytes (take k is) in
      let q : List ℕ = items_bytes (drop (suc k) is) in
      let xs : List ℕ = reply_mark ++ (length is ∷ p) in
      let l : length p ≡ k * 41 = items_length_lem (fits-take k fs) ∙ ap (λ (n : ℕ). n * 41) (length-take-le k is (omega arith)) in
      let n : 3 + k * 41 ≡ length xs = omega arith in
      let e : items_bytes is ≡ p ++ (item_bytes x ++ q) = ap items_bytes (split_at is k d h) ∙ items_join (take k is) (x ∷ drop (suc k) is) in
      ap (λ (s : List ℕ). item_at (reply_mark ++ (length is ∷ s)) (3 + k * 41)) (e ∙ sym (append_assoc p (item_bytes x) q))
      ∙ ap (item_at (xs ++ item_bytes x ++ q)) n
      ∙ item_read xs q x (fits_at d k fs h)

  reply_items_lem : (k : ℕ) → k ≤ length is → reply_items (reply_bytes is) k ≡ take k is
  unfolding reply_items
  reply_items_lem zero h = refl
  reply_items_lem (suc k) h = rw (reply_items_lem k (omega arith), reply_item_lem k h) (sym (take-suc is k d h))

pub reply_read : (is : List Item) → ItemsFit is → reply_items (reply_bytes is) (length is) ≡ is
reply_read is fs = reply_items_lem is fs no_item (length is) (omega arith) ∙ take-length is

pub reply-count_read : (is : List Item) → reply_count (reply_bytes is) ≡ length is
unfolding reply_bytes
reply-count_read is = refl

-- ---- what is read is written
-- parts of a list put together
join : (m : List ℕ) (i a b : ℕ) → take a (drop i m) ++ take b (drop (i + a) m) ≡ take (a + b) (drop i m)
join m i a b = rw (← drop-drop a i m) (sym (take-add a b (drop i m)))

one_more : (m : List ℕ) (i n : ℕ) → i < length m → get_or m i 0 ∷ take n (drop (i + 1) m) ≡ take (suc n) (drop i m)
one_more m i n h = rw (add-one, drop-cons m i 0 h)

pub item_write : (m : List ℕ) (i : ℕ) → ((j : ℕ) → get_or m j 0 < 256) → i + 41 ≤ length m → item_bytes (item_at m i) ≡ take 41 (drop i m)
unfolding item_bytes item_at
item_write m i b h =
    let n : i + 9 ≡ i + 8 + 1 = omega arith in
    rw (op_write m i b (omega arith), n, one_more m (i + 8) 32 (omega arith)) (join m i 8 33)

parts_write : (m : List ℕ) → ((j : ℕ) → get_or m j 0 < 256) → length m ≡ 80
    → op_bytes (commit_of m).op ++ ((commit_of m).author ∷ big_endian 4 (commit_of m).seq) ++ (commit_of m).digest ++ ((commit_of m).status ∷ (commit_of m).tag) ≡ take 78 (drop 2 m)
unfolding commit_of
parts_write m b h =
    rw (op_write m 2 b (omega arith), word_write m 11 b (omega arith), one_more m 10 4 (omega arith), one_more m 47 32 (omega arith), join m 2 8 5, join m 2 13 32) (join m 2 45 33)

fields_write : (m : List ℕ) → ((j : ℕ) → get_or m j 0 < 256) → length m ≡ 80 → commit_fields (commit_of m) ≡ take 78 (drop 2 m)
fields_write m b h = fields_are (commit_of m) ∙ parts_write m b h

marked-split : (a b : ℕ) (m : List ℕ) → marked (a ∷ b ∷ []) m ≡ true → m ≡ a ∷ b ∷ drop 2 m
unfolding marked
marked-split a b [] e = absurd (let z : ◌≡◌ {A = ℕ} 0 1 = cc e in omega arith)
marked-split a b (x ∷ []) e = absurd (let z : ◌≡◌ {A = ℕ} 0 1 = cc e in omega arith)
marked-split a b (x ∷ y ∷ m) e =
    let h : eqb x a ≡ true = (and_yes (leb 2 (length (x ∷ y ∷ m))) (eqb x a) (and_yes _ (eqb y b) e).0).1 in
    let g : eqb y b ≡ true = (and_yes (leb 2 (length (x ∷ y ∷ m)) && eqb x a) (eqb y b) e).1 in
    rw (eqb-true x a h, eqb-true y b g)

whole : (m : List ℕ) (n : ℕ) → length m ≡ n + 2 → take n (drop 2 m) ≡ drop 2 m
whole m n h = take_all n (drop 2 m) (simp length-drop (omega arith))

pub invoke_write : (m : List ℕ) → ((j : ℕ) → get_or m j 0 < 256) → is_invoke m ≡ true → invoke_bytes (item_at m 2) ≡ m
invoke_write m b e =
    let h : length m ≡ 43 = invoke_length_lem m e in
    rw (invoke_item (item_at m 2), item_write m 2 b (omega arith), whole m 41 h) (sym (marked-split _ _ m (invoke_mark_lem m e)))

pub commit_write : (m : List ℕ) → ((j : ℕ) → get_or m j 0 < 256) → is_commit m ≡ true → commit_bytes (commit_of m) ≡ m
commit_write m b e =
    let h : length m ≡ 80 = commit_length_lem m e in
    rw (commit_marked (commit_of m), fields_write m b h, whole m 78 h) (sym (marked-split _ _ m (commit_mark_lem m e)))

pub broadcast_write : (m : List ℕ) → ((j : ℕ) → get_or m j 0 < 256) → is_broadcast m ≡ true → broadcast_bytes (commit_of m) ≡ m
unfolding broadcast_bytes
broadcast_write m b e =
    let h : length m ≡ 80 = broadcast-length m e in
    rw (fields_write m b h, whole m 78 h) (sym (marked-split _ _ m (broadcast_mark_lem m e)))

pub items_count : (m : List ℕ) (n : ℕ) → length (reply_items m n) ≡ n
unfolding reply_items
items_count m zero = refl
items_count m (suc n) = rw (length-append (reply_items m n) (reply_item m n ∷ []), items_count m n) (omega arith)

items_write : (m : List ℕ) (n : ℕ) → ((j : ℕ) → get_or m j 0 < 256) → 3 + n * 41 ≤ length m → items_bytes (reply_items m n) ≡ take (n * 41) (drop 3 m)
unfolding reply_items items_bytes
items_write m zero b h = refl
items_write m (suc n) b h =
    let f : suc n * 41 ≡ n * 41 + 41 = omega arith in
    rw (items_more (reply_items m n) (reply_item m n), items_write m n b (omega arith), item_write m (3 + n * 41) b (omega arith), f) (join m 3 (n * 41) 41)

pub reply_write : (m : List ℕ) → ((j : ℕ) → get_or m j 0 < 256) → is_reply m ≡ true → reply_bytes (reply_items m (reply_count m)) ≡ m
unfolding reply_bytes
reply_write m b e =
    let h : length m ≡ 3 + reply_count m * 41 = reply-length m e in
    let w : take (reply_count m * 41) (drop 3 m) ≡ drop 3 m = take_all (reply_count m * 41) (drop 3 m) (simp length-drop (omega arith)) in
    let t : reply_count m ∷ drop 3 m ≡ drop 2 m = sym (drop-cons m 2 0 (omega arith)) in
    rw (items_count m (reply_count m), items_write m (reply_count m) b (omega arith), w, t) (sym (marked-split _ _ m (reply_mark_lem m e)))

-- ---- what is read fits
pub item_fits : (m : List ℕ) (i : ℕ) → ((j : ℕ) → get_or m j 0 < 256) → i + 41 ≤ length m → ItemFits (item_at m i)
unfolding item_at
item_fits m i b h = record { count = op_fits m i b; tag = simp (length-take, length-drop) (omega arith) }

pub commit_fits : (m : List ℕ) → ((j : ℕ) → get_or m j 0 < 256) → 80 ≤ length m → CommitFits (commit_of m)
unfolding commit_of
commit_fits m b h =
    record {
      count = op_fits m 2 b;
      seq = word_fits m 11 b;
      digest = simp (length-take, length-drop) (omega arith);
      tag = simp (length-take, length-drop) (omega arith);
    }

-- ---- the strings show their fields
pub invoke-string-fields : (e f : Operation) (a b : ℕ) → e.count < 2 ^ 32 → f.count < 2 ^ 32 → invoke_string e a ≡ invoke_string f b → (e ≡ f) × (a ≡ b)
unfolding invoke_string op_bytes big_endian
invoke-string-fields e f a b he hf q = (
  sym (op_read_lem invoke_mark (a ∷ []) e he) ∙ ap (λ (s : List ℕ). op_at s 2) q ∙ op_read_lem invoke_mark (b ∷ []) f hf,
  ap (λ (s : List ℕ). get_or s 10 0) q,
)

-- a commit with these fields and an empty tag
abbrev bare : Operation → ℕ → ℕ → List ℕ → ℕ → Commit
bare e author seq digest status = record { op = e; author = author; seq = seq; digest = digest; status = status; tag = replicate 32 0 }

bare_read : (e : Operation) (author seq : ℕ) (digest : List ℕ) (status : ℕ) → e.count < 2 ^ 32 → seq < 2 ^ 32 → length digest ≡ 32
    → commit_of (commit_string e author seq digest status ++ replicate 32 0) ≡ bare e author seq digest status
bare_read e author seq digest status he hs hd =
    ap commit_of (commit_tagged (bare e author seq digest status)) ∙ commit_read (bare e author seq digest status) (record { count = he; seq = hs; digest = hd; tag = refl })

pub commit_string-fields : (e f : Operation) (a b p q : ℕ) (d g : List ℕ) (s t : ℕ)
    → e.count < 2 ^ 32 → f.count < 2 ^ 32 → p < 2 ^ 32 → q < 2 ^ 32 → length d ≡ 32 → length g ≡ 32
    → commit_string e a p d s ≡ commit_string f b q g t → (e ≡ f) × (a ≡ b) × (p ≡ q) × (d ≡ g) × (s ≡ t)
commit_string-fields e f a b p q d g s t he hf hp hq hd hg r =
    let k : bare e a p d s ≡ bare f b q g t
    = sym (bare_read e a p d s he hp hd) ∙ ap (λ (m : List ℕ). commit_of (m ++ replicate 32 0)) r ∙ bare_read f b q g t hf hq hg in
    (ap (λ (c : Commit). c.op) k, ap (λ (c : Commit). c.author) k, ap (λ (c : Commit). c.seq) k, ap (λ (c : Commit). c.digest) k, ap (λ (c : Commit). c.status) k)

-- a chain string after its value
chain_rest : (v : List ℕ) (e : Operation) (p a : ℕ) → chain_string v e p a ≡ v ++ (op_bytes e ++ (big_endian 4 p ++ (a ∷ [])))
unfolding chain_string
chain_rest v e p a = simp append_assoc

pub chain_string-fields : (v w : List ℕ) (e f : Operation) (p q a b : ℕ)
    → length v ≡ 32 → length w ≡ 32 → e.count < 2 ^ 32 → f.count < 2 ^ 32 → p < 2 ^ 32 → q < 2 ^ 32
    → chain_string v e p a ≡ chain_string w f q b → (v ≡ w) × (e ≡ f) × (p ≡ q) × (a ≡ b)
unfolding op_bytes big_endian word_at
chain_string-fields v w e f p q a b hv hw he hf hp hq r =
    let s : List ℕ = op_bytes e ++ (big_endian 4 p ++ (a ∷ [])) in
    let t : List ℕ = op_bytes f ++ (big_endian 4 q ++ (b ∷ [])) in
    let x : v ++ s ≡ w ++ t = sym (chain_rest v e p a) ∙ r ∙ chain_rest w f q b in
    let y : s ≡ t = sym (drop_at v s 32 hv) ∙ ap (drop 32) x ∙ drop_at w t 32 hw in (
      sym (take_at v s 32 hv) ∙ ap (take 32) x ∙ take_at w t 32 hw,
      sym (op_front e (big_endian 4 p ++ (a ∷ [])) he) ∙ ap (λ (m : List ℕ). op_at m 0) y ∙ op_front f (big_endian 4 q ++ (b ∷ [])) hf,
      sym (word_back p hp) ∙ ap (λ (m : List ℕ). word_at m 8) y ∙ word_back q hq,
      ap (λ (m : List ℕ). get_or m 12 0) y,
    )
