-- Lengths of the chain as a reply leaves it. Assumes nothing.
use Prim.Native.Nat.{ℕ, zero, suc, ◌+◌, ◌<◌, ◌≤◌}
use mathlib.Core.Path.{◌≡◌}
use mathlib.Core.List.{List}
use mathlib.Core.Bool.{Bool, true, false, cond}
use lib.Dec.{ltb}
use lib.ListN.{length}
use native.Mathlib.Omega.{arith}
use Rattle.message.specs.declared.Item.{Item}
use Rattle.message.specs.Message.{reply_item}
use Rattle.verify.proofs.Laws.{link_length}
use Rattle.replica.specs.Places.{value_at, hold_value}
use Rattle.replica.proofs.Places.{hold_length}
use Rattle.client_reply_check.specs.ReplyChecks.{seq_at, item_value}
use Rattle.client_reply.specs.Reply.{chain_item, chain_to}

pub item_value-length : (c k : ℕ) (i : Item) (chain : List ℕ) → length (item_value c k i chain) ≡ 32
unfolding item_value
item_value-length c k i chain = link_length (value_at c k chain) i.op (seq_at c k) i.author

item_length_lem : (c held k : ℕ) (i : Item) (chain : List ℕ) → length chain ≡ 1056 → k < 32 → length (chain_item c held k i chain) ≡ 1056
unfolding chain_item
item_length_lem c held k i chain l h = go (ltb k held)
  where
    go : (b : Bool) → length (cond b chain (hold_value c (k + 1) (item_value c k i chain) chain)) ≡ 1056
    go true = l
    go false = hold_length c (k + 1) (item_value c k i chain) chain (item_value-length c k i chain) l (omega arith)

-- with the first k items
pub chain_length_lem : (c held : ℕ) (m chain : List ℕ) → length chain ≡ 1056 → (k : ℕ) → k ≤ 32 → length (chain_to c held m chain k) ≡ 1056
unfolding chain_to
chain_length_lem c held m chain l zero h = l
chain_length_lem c held m chain l (suc k) h =
    item_length_lem c held k (reply_item m k) (chain_to c held m chain k) (chain_length_lem c held m chain l k (omega arith)) (omega arith)
