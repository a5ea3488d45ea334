-- The four records and the strings under digest and tag: document 01, "Marks and messages". Lengths and offsets: Layout.antt.
use Rattle.std.specs.Prelude.{ℕ, zero, suc, ◌+◌, ◌*◌, List, [], ◌∷◌, ◌++◌, Bool, ◌&&◌, length, get_or, take, drop, leb, eqb}
use Rattle.slices.specs.Bytes.{big_endian, word_at}
use Rattle.operation.specs.declared.Operation.{Operation}
use Rattle.operation.specs.Operation.{max_pending, op_bytes, op_at}
use Rattle.message.specs.Layout.{tag_length, digest_length, mark_length, invoke_mark, reply_mark, commit_mark, broadcast_mark, item_author, item_tag, item_length, invoke_length, count_offset, reply_head, author_offset, seq_offset, digest_offset, status_offset, tag_offset, commit_length}
use Rattle.message.specs.declared.Item.{Item}
use Rattle.message.specs.declared.Commit.{Commit}

-- "The IN tag is made … over IN, entry, author (11 bytes)."
unfoldable pub invoke_string : Operation → ℕ → List ℕ
invoke_string e author = invoke_mark ++ op_bytes e ++ (author ∷ [])

-- "entry, author, place, digest, status", 46 bytes
abbrev pub commit_body : Operation → ℕ → ℕ → List ℕ → ℕ → List ℕ
commit_body e author seq digest status = op_bytes e ++ (author ∷ big_endian 4 seq) ++ digest ++ (status ∷ [])

-- "The CO tag is over CO, entry, author, place, digest, status (48 bytes)."
unfoldable pub commit_string : Operation → ℕ → ℕ → List ℕ → ℕ → List ℕ
commit_string e author seq digest status = commit_mark ++ commit_body e author seq digest status

-- "At place p it is the digest of 45 bytes: value at p − 1, entry, p, author."
unfoldable pub chain_string : List ℕ → Operation → ℕ → ℕ → List ℕ
chain_string value e seq author = value ++ op_bytes e ++ big_endian 4 seq ++ (author ∷ [])

-- an item: "entry, author, tag", 41 bytes
unfoldable pub item_bytes : Item → List ℕ
item_bytes i = op_bytes i.op ++ (i.author ∷ i.tag)

unfoldable pub items_bytes : List Item → List ℕ
items_bytes [] = []
items_bytes (i ∷ is) = item_bytes i ++ items_bytes is

-- "`IN`: entry, author, tag. 43 bytes.": the string under its tag, then the tag
unfoldable pub invoke_bytes : Item → List ℕ
invoke_bytes i = invoke_string i.op i.author ++ i.tag

-- "`RE`: number of items n …, then n items …. 3 + 41 × n bytes."
unfoldable pub reply_bytes : List Item → List ℕ
reply_bytes is = reply_mark ++ (length is ∷ items_bytes is)

-- "`CO` and `BR`: entry, author, place, digest (32), status, tag. 80 bytes.": the string under its tag, then the tag
unfoldable pub commit_bytes : Commit → List ℕ
commit_bytes k = commit_string k.op k.author k.seq k.digest k.status ++ k.tag

-- what both have after the mark, 78 bytes
unfoldable pub commit_fields : Commit → List ℕ
commit_fields k = commit_body k.op k.author k.seq k.digest k.status ++ k.tag

-- "A `BR` carries the `CO` tag unchanged."
unfoldable pub broadcast_bytes : Commit → List ℕ
broadcast_bytes k = broadcast_mark ++ commit_fields k

-- ---- reading: mark and exact length first, then the fields, each any number
-- "Each record begins with two ASCII letters."
unfoldable pub marked : List ℕ → List ℕ → Bool
marked mark m = leb mark_length (length m) && eqb (get_or m 0 0) (get_or mark 0 0) && eqb (get_or m 1 0) (get_or mark 1 0)

unfoldable pub is_invoke : List ℕ → Bool
is_invoke m = marked invoke_mark m && eqb (length m) invoke_length

-- the number of items that a reply says it has
abbrev pub reply_count : List ℕ → ℕ
reply_count m = get_or m count_offset 0

-- "n (one byte, 0 to 32) … 3 + 41 × n bytes"
unfoldable pub is_reply : List ℕ → Bool
is_reply m = marked reply_mark m && leb reply_head (length m) && leb (reply_count m) max_pending && eqb (length m) (reply_head + reply_count m * item_length)

unfoldable pub is_commit : List ℕ → Bool
is_commit m = marked commit_mark m && eqb (length m) commit_length

unfoldable pub is_broadcast : List ℕ → Bool
is_broadcast m = marked broadcast_mark m && eqb (length m) commit_length

-- the item at byte i
unfoldable pub item_at : List ℕ → ℕ → Item
item_at m i = record { op = op_at m i; author = get_or m (i + item_author) 0; tag = take tag_length (drop (i + item_tag) m) }

-- item k of a reply, counted from 0, and its first n items
abbrev pub reply_item : List ℕ → ℕ → Item
reply_item m k = item_at m (reply_head + k * item_length)

unfoldable pub reply_items : List ℕ → ℕ → List Item
reply_items m zero = []
reply_items m (suc k) = reply_items m k ++ (reply_item m k ∷ [])

-- the commit in a commit or broadcast message
unfoldable pub commit_of : List ℕ → Commit
commit_of m =
    record {
      op = op_at m mark_length;
      author = get_or m author_offset 0;
      seq = word_at m seq_offset;
      digest = take digest_length (drop digest_offset m);
      status = get_or m status_offset 0;
      tag = take tag_length (drop tag_offset m);
    }
