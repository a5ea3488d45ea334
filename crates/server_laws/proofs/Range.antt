-- The server's check 8 in parts, and of one slot. Assumes nothing.
use Prim.Native.Nat.{ℕ, zero, suc, ◌*◌, ◌<◌, ◌≤◌}
use mathlib.Core.Path.{◌≡◌, refl, ap, ◌∙◌}
use mathlib.Core.Logic.{⊎_elim}
use mathlib.Core.List.{List, [], ◌∷◌}
use mathlib.Core.Bool.{Bool, true, false, not, ◌&&◌, or-true}
use lib.Dec.{leb}
use lib.ListN.{take, drop}
use native.Mathlib.Omega.{arith}
use native.Mathlib.Nat.{eq-or-lt_of_le, le_of_suc-le-suc}
use borrow.Author.Tests.{leb-true, le-leb}
use Rattle.slices.specs.Bytes.{all, is_zero}
use Rattle.slices.proofs.Laws.{and_yes}
use Rattle.checks.proofs.Laws.{every_yes, every-each}
use Rattle.operation.specs.declared.Operation.{Operation}
use Rattle.operation.specs.Operation.{op_ok}
use Rattle.message.specs.declared.Item.{Item}
use Rattle.server.specs.declared.Server.{Server}
use Rattle.server.specs.Server.{unused_ok, pending, slot_item, slot_status, slot_digest, slot_tag, item_ok, slot_ok, slots_ok, in_range}
use Rattle.server_laws.proofs.State.{Sizes}

-- ---- check 8 in parts
pub record Ranged (s : Server) : Type 0 where
  pub order : s.passed ≤ s.placed
  pub early : s.placed ≤ 1000000
  pub few : pending s ≤ 32
  pub counts : all (λ x. leb x 1000000) s.counts ≡ true
  pub statuses : all (λ x. leb x 2) s.statuses ≡ true
  pub slots : (k : ℕ) → k < pending s → slot_ok s k ≡ true
  pub items : all is_zero (drop (pending s * 41) s.items) ≡ true
  pub unused : all is_zero (drop (pending s) s.statuses) ≡ true
  pub digests : all is_zero (drop (pending s * 32) s.digests) ≡ true
  pub tags : all is_zero (drop (pending s * 32) s.tags) ≡ true

pub unused_yes : (s : Server) (n : ℕ) → unused_ok s n ≡ true
    → (all is_zero (drop (n * 41) s.items) ≡ true) × (all is_zero (drop n s.statuses) ≡ true)
    × (all is_zero (drop (n * 32) s.digests) ≡ true) × (all is_zero (drop (n * 32) s.tags) ≡ true)
unfolding unused_ok
unused_yes s n e =
    let y =
    (every_yes true
    (all is_zero (drop (n * 41) s.items)
    ∷ all is_zero (drop n s.statuses)
    ∷ all is_zero (drop (n * 32) s.digests)
    ∷ all is_zero (drop (n * 32) s.tags)
    ∷ [])
    e
    ).1
    in
    (y.0, y.1.0, y.1.1.0, y.1.1.1.0)

slots_each : (s : Server) (n : ℕ) → slots_ok s n ≡ true → (k : ℕ) → k < n → slot_ok s k ≡ true
unfolding slots_ok
slots_each s zero e k h = absurd (omega arith)
slots_each s (suc n) e k h =
    let y = and_yes (slots_ok s n) (slot_ok s n) e in
    ⊎_elim
    (λ (q : k ≡ n). ap (slot_ok s) q ∙ y.1)
    (λ (q : k < n). slots_each s n y.0 k q)
    (eq-or-lt_of_le (le_of_suc-le-suc h))

slots_all : (s : Server) (n : ℕ) → ((k : ℕ) → k < n → slot_ok s k ≡ true) → slots_ok s n ≡ true
unfolding slots_ok
slots_all s zero f = refl
slots_all s (suc n) f = rw (slots_all s n (λ k h. f k (omega arith)), f n (omega arith))

abbrev tests : Server → List Bool
tests s =
    leb s.passed s.placed
    ∷ leb (pending s) 32
    ∷ leb s.placed 1000000
    ∷ all (λ x. leb x 1000000) s.counts
    ∷ all (λ x. leb x 2) s.statuses
    ∷ slots_ok s (pending s)
    ∷ unused_ok s (pending s)
    ∷ []

pub ranged : (s : Server) → in_range s ≡ true → Ranged s
unfolding in_range
ranged s e =
    let y = (every_yes true (tests s) e).1 in
    let z = unused_yes s (pending s) y.1.1.1.1.1.1.0 in
    record {
      order = leb-true _ _ y.0;
      early = leb-true _ _ y.1.1.0;
      few = leb-true _ _ y.1.0;
      counts = y.1.1.1.0;
      statuses = y.1.1.1.1.0;
      slots = slots_each s (pending s) y.1.1.1.1.1.0;
      items = z.0;
      unused = z.1;
      digests = z.2;
      tags = z.3;
    }

unused_each : (s : Server) → Ranged s → unused_ok s (pending s) ≡ true
unfolding unused_ok
unused_each s r =
    every-each
    (all is_zero (drop (pending s * 41) s.items)
    ∷ all is_zero (drop (pending s) s.statuses)
    ∷ all is_zero (drop (pending s * 32) s.digests)
    ∷ all is_zero (drop (pending s * 32) s.tags)
    ∷ [])
    (r.items, (r.unused, (r.digests, (r.tags, tt))))

pub in_range_lem : (s : Server) → Ranged s → in_range s ≡ true
unfolding in_range
in_range_lem s r =
    every-each (tests s) (
      le-leb _ _ r.order,
      (
        le-leb _ _ r.few,
        (
          le-leb _ _ r.early,
          (r.counts, (r.statuses, (slots_all s (pending s) r.slots, (unused_each s r, tt)))),
        ),
      ),
    )

-- the part that the server's places need
pub record Ordered (s : Server) : Type 0 where
  pub order : s.passed ≤ s.placed
  pub few : pending s ≤ 32
  pub unused : all is_zero (drop (pending s) s.statuses) ≡ true

pub ordered : (s : Server) → in_range s ≡ true → Ordered s
ordered s e = let r = ranged s e in record { order = r.order; few = r.few; unused = r.unused }

-- check 8, and the lengths of the arrays
pub record Sound (s : Server) : Type 0 where
  pub range : Ranged s
  pub sizes : Sizes s

-- ---- one slot
pub slot_same : (s t : Server) (j k : ℕ) → slot_item s j ≡ slot_item t k → slot_status s j ≡ slot_status t k → slot_digest s j ≡ slot_digest t k → slot_tag s j ≡ slot_tag t k
    → slot_ok s j ≡ true → slot_ok t k ≡ true
unfolding slot_ok
slot_same s t j k a b c d h = rw (a, b, c, d) at h

-- a slot whose item is fine: without a commit, and with one
pub slot_empty : (s : Server) (k : ℕ) → item_ok (slot_item s k) ≡ true → all is_zero (slot_digest s k) ≡ true → all is_zero (slot_tag s k) ≡ true → slot_ok s k ≡ true
unfolding slot_ok
slot_empty s k i d t = rw (i, d, t) (or-true (not (is_zero (slot_status s k))))

pub slot_full : (s : Server) (k : ℕ) → item_ok (slot_item s k) ≡ true → is_zero (slot_status s k) ≡ false → slot_ok s k ≡ true
unfolding slot_ok
slot_full s k i z = rw (i, z)

pub slot_item_lem : (s : Server) (k : ℕ) → slot_ok s k ≡ true → item_ok (slot_item s k) ≡ true
unfolding slot_ok
slot_item_lem s k h = (and_yes (item_ok (slot_item s k)) _ h).0

pub all_take : (p : ℕ → Bool) (n : ℕ) (s : List ℕ) → all p s ≡ true → all p (take n s) ≡ true
unfolding all
all_take p zero s e = refl
all_take p (suc n) [] e = refl
all_take p (suc n) (x ∷ s) e = let h = and_yes (p x) (all p s) e in rw h.0 (all_take p n s h.1)

pub item_count : (i : Item) → item_ok i ≡ true → op_ok i.op ≡ true
unfolding item_ok
item_count i e = (every_yes true (op_ok i.op ∷ leb 1 i.author ∷ leb i.author 8 ∷ []) e).1.0

pub op-count : (e : Operation) → op_ok e ≡ true → leb e.count 1000000 ≡ true
unfolding op_ok
op-count e h =
    let n : ℕ = e.count in
    (and_yes (leb 1 n) _ (and_yes (leb 1 n && leb n 1000000) _ h).0).1
