-- What a message may carry: "entry, author, status allowed?" Document 01, "The questions, in order": 8 of the relay, 21 and 30.
use Rattle.std.specs.Prelude.{ℕ, Bool, ◌&&◌, leb}
use Rattle.operation.specs.declared.Operation.{Operation}
use Rattle.operation.specs.Operation.{op_ok}
use Rattle.message.specs.Layout.{client_count}
use Rattle.message.specs.declared.Commit.{Commit}

-- operation and author: what this table allows, and "a van number, 1 to 8"
abbrev pub content_ok : (Operation → Bool) → Operation → ℕ → Bool
content_ok table e author = table e && leb 1 author && leb author client_count

-- "A status is one byte: 1 done, 0 aside."
abbrev pub status_ok : ℕ → Bool
status_ok status = leb status 1

-- all three, of a `CO` or a `BR`
unfoldable pub commit_ok : Commit → Bool
commit_ok k = content_ok op_ok k.op k.author && status_ok k.status
