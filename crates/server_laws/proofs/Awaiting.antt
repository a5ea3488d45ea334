-- Sequence numbers whose commit the server awaits, after each of its steps. Assumes nothing.
use Prim.Native.Nat.{ℕ, ◌+◌, ◌-◌, ◌<◌, ◌≤◌}
use mathlib.Core.Path.{◌≡◌, sym, ap, ◌∙◌}
use mathlib.Core.Logic.{⊎_elim}
use lib.ListN.{length}
use native.Mathlib.Omega.{arith}
use Rattle.operation.specs.declared.Operation.{Operation}
use Rattle.message.specs.declared.Item.{Item}
use Rattle.message.specs.declared.Commit.{Commit}
use Rattle.message.specs.Readers.{ItemFits}
use Rattle.client_laws.proofs.Chain.{le-or-lt}
use Rattle.server.specs.declared.Server.{Server}
use Rattle.server.specs.Server.{pending, slot_item, slot_status, slot_of, due_count, placed_server, stored_server, passed_server}
use Rattle.server_laws.proofs.Slots.{zero_at, leading-some}
use Rattle.server_laws.proofs.State as State
use Rattle.server_laws.proofs.State.{Sizes}
use Rattle.server_laws.proofs.Range.{Ordered}
use Rattle.server_laws.proofs.Checks.{Found}

-- sequence number p waits with operation e of client n, and has no commit
pub record Uncommitted (s : Server) (n p : ℕ) (e : Operation) : Type 0 where
  pub above : s.passed + 1 ≤ p
  pub below : p ≤ s.placed
  pub op : (slot_item s (p - (s.passed + 1))).op ≡ e
  pub author : (slot_item s (p - (s.passed + 1))).author ≡ n
  pub none : slot_status s (p - (s.passed + 1)) ≡ 0

-- ---- an item is placed
module _ (s : Server) (Z : Sizes s) (o : Ordered s) (i : Item) (few : pending s < 32) (f : ItemFits i) where
  pub placed-kept : (n p : ℕ) (e : Operation) → Uncommitted s n p e → Uncommitted (placed_server s i) n p e
  unfolding placed_server
  placed-kept n p e U =
      let a = U.above in
      let b = U.below in
      let k = p - (s.passed + 1) in
      let q : slot_item (placed_server s i) k ≡ slot_item s k = State.slot_old s Z i few f k (omega arith) in
      record {
        above = a;
        below = omega arith;
        op = ap (λ (x : Item). x.op) q ∙ U.op;
        author = ap (λ (x : Item). x.author) q ∙ U.author;
        none = State.status_same s i k ∙ U.none;
      }

  last_empty : slot_status s (pending s) ≡ 0
  unfolding slot_status
  last_empty = zero_at s.statuses (pending s) o.unused

  pub placed_new : Uncommitted (placed_server s i) i.author (s.placed + 1) i.op
  unfolding placed_server
  placed_new =
      let a = o.order in
      let z : s.placed + 1 - (s.passed + 1) ≡ pending s = omega arith in
      let q = State.slot_new s Z i few f in
      record {
        above = omega arith;
        below = omega arith;
        op = rw z (ap (λ (x : Item). x.op) q);
        author = rw z (ap (λ (x : Item). x.author) q);
        none = rw z (State.status_same s i (pending s) ∙ last_empty);
      }

-- ---- a commit of another client is stored
module _ (s : Server) (Z : Sizes s) (few : pending s ≤ 32) (k : Commit) (F : Found s k) (dl : length k.digest ≡ 32) (tl : length k.tag ≡ 32) where
  inside : slot_of s k < pending s
  inside = let a = F.above in let b = F.below in omega arith

  pub stored_kept : (n p : ℕ) (e : Operation) → (n ≡ k.author → ⊥) → Uncommitted s n p e → Uncommitted (stored_server s k) n p e
  unfolding stored_server
  stored_kept n p e d U =
      let j = p - (s.passed + 1) in
      let other : j ≡ slot_of s k → ⊥ = λ x. d (sym U.author ∙ ap (λ (y : ℕ). (slot_item s y).author) x ∙ F.author) in
      record {
        above = U.above;
        below = U.below;
        op = ap (λ (x : Item). x.op) (State.item_same s k j) ∙ U.op;
        author = ap (λ (x : Item). x.author) (State.item_same s k j) ∙ U.author;
        none = State.status_old s Z few k inside dl tl j other ∙ U.none;
      }

-- ---- what is due is passed on
module _ (s : Server) (Z : Sizes s) (few : pending s ≤ 32) where
  after-due : (k : ℕ) → slot_status s k ≡ 0 → due_count s ≤ k
  unfolding slot_status
  after-due k z =
      ⊎_elim
      (λ (h : due_count s ≤ k). h)
      (λ (h : k < due_count s). absurd (leading-some s.statuses k h z))
      (le-or-lt (due_count s) k)

  pub passed_kept : (n p : ℕ) (e : Operation) → Uncommitted s n p e → Uncommitted (passed_server s (due_count s)) n p e
  unfolding passed_server
  passed_kept n p e U =
      let a = U.above in
      let b = U.below in
      let d = due_count s in
      let k = p - (s.passed + 1) in
      let h : d ≤ k = after-due k U.none in
      let j = p - (s.passed + d + 1) in
      let x : k ≡ d + j = omega arith in
      let l : d + j < pending s = omega arith in
      let q : slot_item (passed_server s d) j ≡ slot_item s k = sym (State.item_moved s Z few d j l) ∙ ap (slot_item s) (sym x) in
      record {
        above = omega arith;
        below = b;
        op = ap (λ (y : Item). y.op) q ∙ U.op;
        author = ap (λ (y : Item). y.author) q ∙ U.author;
        none = sym (State.status-moved s Z few d j l) ∙ ap (slot_status s) (sym x) ∙ U.none;
      }
