-- Tags and links of the chain are 32 bytes long. Assumes nothing.
use Prim.Native.Nat.{ℕ}
use mathlib.Core.Path.{◌≡◌}
use mathlib.Core.List.{List}
use lib.ListN.{length}
use Rattle.sha256.proofs.Padding.{sha256-length}
use Rattle.hmac.proofs.Laws.{hmac-length}
use Rattle.operation.specs.declared.Operation.{Operation}
use Rattle.verify.specs.Verify.{invoke_tag, commit_tag, link_value}

pub invoke-tag-length : (keys : List ℕ) (e : Operation) (author : ℕ) → length (invoke_tag keys e author) ≡ 32
unfolding invoke_tag
invoke-tag-length keys e author = hmac-length _ _

pub commit_tag-length : (keys : List ℕ) (e : Operation) (author seq : ℕ) (digest : List ℕ) (status : ℕ)
    → length (commit_tag keys e author seq digest status) ≡ 32
unfolding commit_tag
commit_tag-length keys e author seq digest status = hmac-length _ _

pub link_length : (value : List ℕ) (e : Operation) (seq author : ℕ) → length (link_value value e seq author) ≡ 32
unfolding link_value
link_length value e seq author = sha256-length _
