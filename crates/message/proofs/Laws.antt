-- Laws of the definitions of specs/: writing part by part, tests, lengths.
use Prim.Native.Nat.{ℕ, ◌+◌, ◌*◌, ◌<◌, ◌≤◌}
use mathlib.Core.Path.{◌≡◌, refl, sym, ap, ◌∙◌}
use mathlib.Core.List.{List, [], ◌∷◌, ◌++◌, append-nil, append_assoc}
use mathlib.Core.Bool.{true, ◌&&◌}
use lib.Dec.{leb, eqb}
use lib.ListN.{length, take, drop, length-append, length-take, take-append-drop}
use lib.Seq.{take-append_seam, drop-append-add, drop-drop, take_at, drop_at}
use native.Mathlib.Omega.{arith}
use borrow.Author.Tests.{leb-true, eqb-true}
use Rattle.slices.specs.Bytes.{put, big_endian}
use Rattle.operation.specs.declared.Operation.{Operation}
use Rattle.operation.specs.Operation.{op_bytes}
use Rattle.slices.proofs.Laws.{and_yes, part_left}
use Rattle.message.specs.declared.Item.{Item}
use Rattle.message.specs.declared.Commit.{Commit}
use Rattle.message.specs.Layout.{invoke_mark, reply_mark, commit_mark, broadcast_mark, digest_at}
use Rattle.message.specs.Readers.{ItemsFit, none, more}
use Rattle.message.specs.Message.{invoke_string, commit_string, chain_string, item_bytes, items_bytes, commit_fields, invoke_bytes, reply_bytes, commit_bytes, broadcast_bytes, marked, is_invoke, is_reply, is_commit, is_broadcast, reply_count}

-- ---- parts written one after the other
pub put_next : (p z s : List ℕ) (n k : ℕ) → length p ≡ n → n + length s ≡ k → put (p ++ drop n z) n s ≡ p ++ s ++ drop k z
put_next p z s n k e h = rw (← h, ← e, take-append_seam p (drop (length p) z), drop-append-add p (drop (length p) z) (length s), drop-drop)

-- ---- digests one after the other, one of them put
module _ (s v : List ℕ) (i : ℕ) (l : length v ≡ 32) (h : i * 32 + 32 ≤ length s) where
  before-length : length (take (i * 32) s) ≡ i * 32
  before-length = simp length-take (omega arith)

  pub digest-kept : (j : ℕ) → j < i → digest_at j (put s (i * 32) v) ≡ digest_at j s
  unfolding digest_at
  digest-kept j g =
      let p = take (i * 32) s in
      let a : j * 32 + 32 ≤ length p = omega (arith, before-length) in
      ap (λ (z : List ℕ). take 32 (drop (j * 32) z)) (append_assoc p v (drop (i * 32 + length v) s))
      ∙ part_left 32 (j * 32) p (v ++ drop (i * 32 + length v) s) a
      ∙ sym (part_left 32 (j * 32) p (drop (i * 32) s) a)
      ∙ ap (λ (z : List ℕ). take 32 (drop (j * 32) z)) (take-append-drop (i * 32) s)

  pub digest-put : digest_at i (put s (i * 32) v) ≡ v
  unfolding digest_at
  digest-put =
      let p = take (i * 32) s in
      let q = drop (i * 32 + length v) s in
      ap (λ (z : List ℕ). take 32 (drop (i * 32) z)) (append_assoc p v q)
      ∙ ap (take 32) (drop_at p (v ++ q) (i * 32) before-length)
      ∙ take_at v q 32 l

-- ---- the same bytes, taken apart another way
-- an invoke is its mark and an item; a commit its mark and the fields that a broadcast has too
pub invoke_item : (i : Item) → invoke_bytes i ≡ invoke_mark ++ item_bytes i
unfolding invoke_bytes invoke_string item_bytes op_bytes big_endian
invoke_item i = refl

pub commit_marked : (k : Commit) → commit_bytes k ≡ commit_mark ++ commit_fields k
unfolding commit_bytes commit_string commit_fields
commit_marked k = refl

-- the fields of a commit, one after the other
pub fields_are : (k : Commit) → commit_fields k ≡ op_bytes k.op ++ (k.author ∷ big_endian 4 k.seq) ++ k.digest ++ (k.status ∷ k.tag)
unfolding commit_fields op_bytes big_endian
fields_are k = rw (append_assoc k.digest (k.status ∷ []) k.tag)

-- ---- items
pub items_join : (is js : List Item) → items_bytes (is ++ js) ≡ items_bytes is ++ items_bytes js
unfolding items_bytes
items_join [] js = refl
items_join (i ∷ is) js = rw (items_join is js) (sym (append_assoc (item_bytes i) (items_bytes is) (items_bytes js)))

pub items_more : (is : List Item) (i : Item) → items_bytes (is ++ (i ∷ [])) ≡ items_bytes is ++ item_bytes i
unfolding items_bytes
items_more is i = items_join is (i ∷ []) ∙ ap (λ (s : List ℕ). items_bytes is ++ s) (append-nil (item_bytes i))

-- ---- tests
pub invoke_mark_lem : (m : List ℕ) → is_invoke m ≡ true → marked invoke_mark m ≡ true
unfolding is_invoke
invoke_mark_lem m e = (and_yes (marked invoke_mark m) _ e).0

pub invoke_length_lem : (m : List ℕ) → is_invoke m ≡ true → length m ≡ 43
unfolding is_invoke
invoke_length_lem m e = eqb-true _ _ (and_yes (marked invoke_mark m) _ e).1

pub commit_mark_lem : (m : List ℕ) → is_commit m ≡ true → marked commit_mark m ≡ true
unfolding is_commit
commit_mark_lem m e = (and_yes (marked commit_mark m) _ e).0

pub commit_length_lem : (m : List ℕ) → is_commit m ≡ true → length m ≡ 80
unfolding is_commit
commit_length_lem m e = eqb-true _ _ (and_yes (marked commit_mark m) _ e).1

pub broadcast_mark_lem : (m : List ℕ) → is_broadcast m ≡ true → marked broadcast_mark m ≡ true
unfolding is_broadcast
broadcast_mark_lem m e = (and_yes (marked broadcast_mark m) _ e).0

pub broadcast-length : (m : List ℕ) → is_broadcast m ≡ true → length m ≡ 80
unfolding is_broadcast
broadcast-length m e = eqb-true _ _ (and_yes (marked broadcast_mark m) _ e).1

pub reply_mark_lem : (m : List ℕ) → is_reply m ≡ true → marked reply_mark m ≡ true
unfolding is_reply
reply_mark_lem m e = (and_yes (marked reply_mark m) _ (and_yes _ _ (and_yes _ (eqb (length m) (3 + reply_count m * 41)) e).0).0).0

pub reply-length : (m : List ℕ) → is_reply m ≡ true → length m ≡ 3 + reply_count m * 41
unfolding is_reply
reply-length m e = eqb-true _ _ (and_yes (marked reply_mark m && leb 3 (length m) && leb (reply_count m) 32) _ e).1

pub reply_count_lem : (m : List ℕ) → is_reply m ≡ true → reply_count m ≤ 32
unfolding is_reply
reply_count_lem m e = leb-true _ _ (and_yes (marked reply_mark m && leb 3 (length m)) _ (and_yes _ (eqb (length m) (3 + reply_count m * 41)) e).0).1

-- ---- lengths
pub op_length_lem : (e : Operation) → length (op_bytes e) ≡ 8
unfolding op_bytes big_endian
op_length_lem e = refl

pub item_length_lem : (i : Item) → length i.tag ≡ 32 → length (item_bytes i) ≡ 41
unfolding item_bytes op_bytes big_endian
item_length_lem i h = rw h

pub items_length_lem : {is : List Item} → ItemsFit is → length (items_bytes is) ≡ length is * 41
unfolding items_bytes
items_length_lem none = refl
items_length_lem (more {i = i} {is = is} f fs) = rw length-append (omega (arith, item_length_lem i f.tag, items_length_lem fs))

pub invoke-string-length : (e : Operation) (author : ℕ) → length (invoke_string e author) ≡ 11
unfolding invoke_string op_bytes big_endian
invoke-string-length e author = refl

pub commit_string-length : (e : Operation) (author seq : ℕ) (digest : List ℕ) (status : ℕ) → length digest ≡ 32 → length (commit_string e author seq digest status) ≡ 48
unfolding commit_string op_bytes big_endian
commit_string-length e author seq digest status h = rw (length-append digest (status ∷ []), h)

pub chain_string-length : (value : List ℕ) (e : Operation) (seq author : ℕ) → length value ≡ 32 → length (chain_string value e seq author) ≡ 45
unfolding chain_string op_bytes big_endian
chain_string-length value e seq author h = simp (length-append, h)

pub invoke-bytes-length : (i : Item) → length i.tag ≡ 32 → length (invoke_bytes i) ≡ 43
invoke-bytes-length i h = rw (invoke_item i, item_length_lem i h)

pub fields-length : (k : Commit) → length k.digest ≡ 32 → length k.tag ≡ 32 → length (commit_fields k) ≡ 78
unfolding commit_fields op_bytes big_endian
fields-length k h t = rw (length-append (k.digest ++ (k.status ∷ [])) k.tag, length-append k.digest (k.status ∷ []), h, t)

pub commit_bytes-length : (k : Commit) → length k.digest ≡ 32 → length k.tag ≡ 32 → length (commit_bytes k) ≡ 80
commit_bytes-length k h t = rw (commit_marked k, fields-length k h t)

pub broadcast-bytes-length : (k : Commit) → length k.digest ≡ 32 → length k.tag ≡ 32 → length (broadcast_bytes k) ≡ 80
unfolding broadcast_bytes
broadcast-bytes-length k h t = rw (fields-length k h t)

pub reply-bytes-length : {is : List Item} → ItemsFit is → length (reply_bytes is) ≡ 3 + length is * 41
unfolding reply_bytes
reply-bytes-length fs = omega (arith, items_length_lem fs)

-- ---- a message is the string under its tag, and the tag
pub invoke_tagged : (i : Item) → invoke_string i.op i.author ++ i.tag ≡ invoke_bytes i
unfolding invoke_bytes
invoke_tagged i = refl

pub commit_tagged : (k : Commit) → commit_string k.op k.author k.seq k.digest k.status ++ k.tag ≡ commit_bytes k
unfolding commit_bytes
commit_tagged k = refl
