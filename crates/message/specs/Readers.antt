-- What the readers of any bytes give, and which fields fit the messages.
use Rattle.std.specs.Prelude.{ℕ, ◌<◌, ◌^◌, ◌≡◌, List, [], ◌∷◌, cond, length, replicate, Option, Some, None}
use Rattle.operation.specs.Operation.{no_op}
use Rattle.message.specs.declared.Item.{Item}
use Rattle.message.specs.declared.Commit.{Commit}
use Rattle.message.specs.Layout.{mark_length, digest_length, tag_length}
use Rattle.message.specs.Message.{is_invoke, is_commit, item_at, commit_of}

-- no item: every field zero
abbrev pub no_item : Item
no_item = record { op = no_op; author = 0; tag = replicate tag_length 0 }

-- the message's content where mark and length are right, else none
unfoldable pub read_invoke : List ℕ → Option Item
read_invoke m = cond (is_invoke m) (Some (item_at m mark_length)) None

unfoldable pub read_commit : List ℕ → Option Commit
read_commit m = cond (is_commit m) (Some (commit_of m)) None

-- the fields fit their places: four bytes for count and sequence number, 32 for digest and tag
pub record ItemFits (i : Item) : Type 0 where
  pub count : i.op.count < 2 ^ 32
  pub tag : length i.tag ≡ tag_length

pub record CommitFits (k : Commit) : Type 0 where
  pub count : k.op.count < 2 ^ 32
  pub seq : k.seq < 2 ^ 32
  pub digest : length k.digest ≡ digest_length
  pub tag : length k.tag ≡ tag_length

pub data ItemsFit : List Item → Type 0 where
  none : ItemsFit []
  more : {i : Item} {is : List Item} → ItemFits i → ItemsFit is → ItemsFit (i ∷ is)
