-- Limits of the messages, lengths in bytes, and at which byte each field stands. Document 01, "Marks and messages".
use Rattle.std.specs.Prelude.{ℕ, ◌*◌, List, [], ◌∷◌, take, drop}

-- ---- limits
-- "An author is a van number, 1 to 8"
abbrev pub client_count : ℕ
client_count = 8

-- "A place is 4 bytes, 1 to 1,000,000."
abbrev pub max_seq : ℕ
max_seq = 1000000

-- ---- digests, tags and keys
-- "digest (32)"; the tag is one too
abbrev pub digest_length : ℕ
digest_length = 32

abbrev pub tag_length : ℕ
tag_length = 32

-- "Each van has a 32-byte key; every van holds all eight"
abbrev pub key_length : ℕ
key_length = 32

abbrev pub keys_length : ℕ
keys_length = 256

-- digest k of digests one after the other, counted from 0
unfoldable pub digest_at : ℕ → List ℕ → List ℕ
digest_at k s = take digest_length (drop (k * digest_length) s)

-- ---- an item: "entry, author, tag". From its first byte: where its author and its tag begin, and where it ends
abbrev pub item_author : ℕ
item_author = 8

abbrev pub item_tag : ℕ
item_tag = 9

abbrev pub item_length : ℕ
item_length = 41

-- ---- every message: "Each record begins with two ASCII letters." In `IN`, `CO` and `BR` operation and author come next
abbrev pub mark_length : ℕ
mark_length = 2

-- the marks `IN`, `RE`, `CO` and `BR`
abbrev pub invoke_mark : List ℕ
invoke_mark = 73 ∷ 78 ∷ []

abbrev pub reply_mark : List ℕ
reply_mark = 82 ∷ 69 ∷ []

abbrev pub commit_mark : List ℕ
commit_mark = 67 ∷ 79 ∷ []

abbrev pub broadcast_mark : List ℕ
broadcast_mark = 66 ∷ 82 ∷ []

abbrev pub author_offset : ℕ
author_offset = 10

-- ---- "`IN`: entry, author, tag. 43 bytes."
abbrev pub invoke_length : ℕ
invoke_length = 43

-- ---- `RE`: "number of items n", and the bytes before the first item
abbrev pub count_offset : ℕ
count_offset = 2

abbrev pub reply_head : ℕ
reply_head = 3

-- ---- "`CO` and `BR`: entry, author, place, digest (32), status, tag. 80 bytes."
abbrev pub seq_offset : ℕ
seq_offset = 11

abbrev pub digest_offset : ℕ
digest_offset = 15

abbrev pub status_offset : ℕ
status_offset = 47

abbrev pub tag_offset : ℕ
tag_offset = 48

abbrev pub commit_length : ℕ
commit_length = 80
