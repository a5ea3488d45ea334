-- The evidence in messages: tags by the authors' keys, and the hash chain. Document 01, "Marks and messages".
use Rattle.std.specs.Prelude.{ℕ, ◌-◌, ◌*◌, List, Bool, take, drop}
use Rattle.slices.specs.Bytes.{same}
use Rattle.sha256.specs.Sha256.{sha256}
use Rattle.hmac.specs.Hmac.{hmac}
use Rattle.operation.specs.declared.Operation.{Operation}
use Rattle.message.specs.declared.Item.{Item}
use Rattle.message.specs.declared.Commit.{Commit}
use Rattle.message.specs.Layout.{key_length}
use Rattle.message.specs.Message.{invoke_string, commit_string, chain_string}

-- "Each van has a 32-byte key; every van holds all eight, van 1's first."
unfoldable pub key_of : List ℕ → ℕ → List ℕ
key_of keys n = take key_length (drop ((n - 1) * key_length) keys)

-- "The `IN` tag is made with the author's key over `IN`, entry, author"
unfoldable pub invoke_tag : List ℕ → Operation → ℕ → List ℕ
invoke_tag keys e author = hmac (key_of keys author) (invoke_string e author)

-- "The `CO` tag is over `CO`, entry, author, place, digest, status"
unfoldable pub commit_tag : List ℕ → Operation → ℕ → ℕ → List ℕ → ℕ → List ℕ
commit_tag keys e author seq digest status = hmac (key_of keys author) (commit_string e author seq digest status)

-- "Tag right?": of an item of a reply, and of a broadcast ("A `BR` carries the `CO` tag unchanged")
unfoldable pub item_tag_ok : List ℕ → Item → Bool
item_tag_ok keys i = same i.tag (invoke_tag keys i.op i.author)

unfoldable pub commit_tag_ok : List ℕ → Commit → Bool
commit_tag_ok keys k = same k.tag (commit_tag keys k.op k.author k.seq k.digest k.status)

-- "At place p it is the digest of 45 bytes: value at p − 1, entry, p, author."
unfoldable pub link_value : List ℕ → Operation → ℕ → ℕ → List ℕ
link_value value e seq author = sha256 (chain_string value e seq author)
