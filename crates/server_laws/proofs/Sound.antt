-- The server's steps keep check 8 and the lengths of its arrays. Assumes nothing.
use Prim.Native.Nat.{ℕ, ◌+◌, ◌-◌, ◌*◌, ◌<◌, ◌≤◌}
use mathlib.Core.Path.{◌≡◌, refl, sym, ap, ◌∙◌}
use mathlib.Core.Logic.{⊎_elim}
use mathlib.Core.List.{List, ◌++◌}
use mathlib.Core.Bool.{true, false}
use lib.Dec.{leb, eqb}
use lib.ListN.{length, drop, replicate}
use lib.Seq.{drop-drop, drop-set-lt}
use native.Mathlib.Omega.{arith}
use native.Mathlib.Decide.{ℕ_discrete}
use Rattle.slices.specs.Bytes.{all, is_zero}
use Rattle.slices.proofs.Laws.{all_drop, all_drop_more, all_append, all_drop-append, all_set, all_replicate, drop-put}
use Rattle.checks.proofs.Laws.{cond_cases}
use Rattle.message.specs.declared.Item.{Item}
use Rattle.message.specs.declared.Commit.{Commit}
use Rattle.message.specs.Readers.{ItemFits}
use Rattle.message.specs.Message.{item_bytes}
use Rattle.message.proofs.Laws.{item_length_lem}
use Rattle.client_laws.proofs.Chain.{le-or-lt}
use Rattle.server.specs.declared.Server.{Server}
use Rattle.server.specs.Server.{pending, slot_digest, slot_tag, item_ok, slot_ok, stored_status, slot_of, placed_server, stored_server, passed_server}
use Rattle.server_laws.proofs.State as State
use Rattle.server_laws.proofs.Range.{Ranged, Sound, slot_same, slot_empty, slot_full, slot_item_lem, all_take, item_count, op-count}

-- ---- an item is placed
module _ (s : Server) (S : Sound s) (i : Item) (few : pending s < 32) (early : s.placed < 1000000) (ok : item_ok i ≡ true) (f : ItemFits i) where
  abbrev r : Ranged s
  r = S.range

  digest_none : all is_zero (slot_digest s (pending s)) ≡ true
  unfolding slot_digest
  digest_none = all_take is_zero 32 (drop (pending s * 32) s.digests) r.digests

  tag_none : all is_zero (slot_tag s (pending s)) ≡ true
  unfolding slot_tag
  tag_none = all_take is_zero 32 (drop (pending s * 32) s.tags) r.tags

  placed_slot : (k : ℕ) → k < pending s + 1 → slot_ok (placed_server s i) k ≡ true
  placed_slot k h =
      let t = placed_server s i in
      ⊎_elim
      (λ (q : pending s ≤ k).
      let e : k ≡ pending s = omega arith in
      ap (slot_ok t) e
      ∙ slot_empty t (pending s)
      (ap item_ok (State.slot_new s S.sizes i few f) ∙ ok)
      (ap (all is_zero) (State.digest_same s i (pending s)) ∙ digest_none)
      (ap (all is_zero) (State.tag_same s i (pending s)) ∙ tag_none))
      (λ (q : k < pending s).
      slot_same s t k k (sym (State.slot_old s S.sizes i few f k q)) (sym (State.status_same s i k)) (sym (State.digest_same s i k)) (sym (State.tag_same s i k)) (r.slots k q))
      (le-or-lt (pending s) k)

  pub placed-sound : Sound (placed_server s i)
  unfolding placed_server
  placed-sound =
      let o = r.order in
      let z = S.sizes.items in
      let l = item_length_lem i f.tag in
      let p : s.placed + 1 - s.passed ≡ pending s + 1 = omega arith in
      record {
        range = record {
          order = omega arith;
          early = omega arith;
          few = omega arith;
          counts = all_set (λ x. leb x 1000000) s.counts (i.author - 1) i.op.count r.counts (op-count i.op (item_count i ok));
          statuses = r.statuses;
          slots = λ k h. placed_slot k (omega arith);
          items =
              ap (all is_zero) (drop-put s.items (item_bytes i) (pending s * 41) ((s.placed + 1 - s.passed) * 41) (omega arith) (omega arith))
              ∙ all_drop_more is_zero s.items (pending s * 41) ((s.placed + 1 - s.passed) * 41) (omega arith) r.items;
          unused = all_drop_more is_zero s.statuses (pending s) (s.placed + 1 - s.passed) (omega arith) r.unused;
          digests = all_drop_more is_zero s.digests (pending s * 32) ((s.placed + 1 - s.passed) * 32) (omega arith) r.digests;
          tags = all_drop_more is_zero s.tags (pending s * 32) ((s.placed + 1 - s.passed) * 32) (omega arith) r.tags;
        };
        sizes = State.placed_sizes s S.sizes i few f;
      }

-- ---- a commit is stored
stored_small : (x : ℕ) → leb (stored_status x) 2 ≡ true
stored_small x = cond_cases (λ (y : ℕ). leb y 2 ≡ true) (eqb x 1) 1 2 (λ e. refl) (λ e. refl)

stored_some : (x : ℕ) → is_zero (stored_status x) ≡ false
stored_some x = cond_cases (λ (y : ℕ). is_zero y ≡ false) (eqb x 1) 1 2 (λ e. refl) (λ e. refl)

module _ (s : Server) (S : Sound s) (k : Commit) (inside : slot_of s k < pending s) (dl : length k.digest ≡ 32) (tl : length k.tag ≡ 32) where
  abbrev q : ℕ
  q = slot_of s k

  abbrev t : Server
  t = stored_server s k

  stored_slot : (j : ℕ) → Dec (j ≡ q) → j < pending s → slot_ok t j ≡ true
  stored_slot j (yes e) h =
      ap (slot_ok t) e
      ∙ slot_full t q
      (ap item_ok (State.item_same s k q) ∙ slot_item_lem s q (S.range.slots q inside))
      (ap is_zero (State.status_new s S.sizes S.range.few k inside dl tl) ∙ stored_some k.status)
  stored_slot j (no n) h =
      slot_same s t j j
      (sym (State.item_same s k j))
      (sym (State.status_old s S.sizes S.range.few k inside dl tl j n))
      (sym (State.digest_old s S.sizes S.range.few k inside dl tl j n))
      (sym (State.tag_old s S.sizes S.range.few k inside dl tl j n))
      (S.range.slots j h)

  pub stored_sound : Sound t
  unfolding stored_server
  stored_sound =
      let r = S.range in
      let w = r.few in
      let a = State.room_digests s S.sizes r.few k inside dl tl in
      let b = State.room-tags s S.sizes r.few k inside dl tl in
      record {
        range = record {
          order = r.order;
          early = r.early;
          few = r.few;
          counts = r.counts;
          statuses = all_set (λ x. leb x 2) s.statuses q (stored_status k.status) r.statuses (stored_small k.status);
          slots = λ j h. stored_slot j (ℕ_discrete j q) h;
          items = r.items;
          unused = ap (all is_zero) (drop-set-lt (pending s) s.statuses q (stored_status k.status) inside) ∙ r.unused;
          digests = ap (all is_zero) (drop-put s.digests k.digest (q * 32) (pending s * 32) (omega arith) (omega arith)) ∙ r.digests;
          tags = ap (all is_zero) (drop-put s.tags k.tag (q * 32) (pending s * 32) (omega arith) (omega arith)) ∙ r.tags;
        };
        sizes = State.stored_sizes s S.sizes r.few k inside dl tl;
      }

-- ---- slots are shifted
rest_shift : (s : List ℕ) (a b n : ℕ) → a + b ≡ n → all is_zero (drop n s) ≡ true → all is_zero (drop b (drop a s ++ replicate a 0)) ≡ true
rest_shift s a b n e h =
    all_drop-append is_zero (drop a s) (replicate a 0) b
    (ap (all is_zero) (drop-drop b a s) ∙ ap (λ (x : ℕ). all is_zero (drop x s)) e ∙ h)
    (all_replicate is_zero a 0 refl)

module _ (s : Server) (S : Sound s) (n : ℕ) (l : n ≤ pending s) where
  passed_slot : (k : ℕ) → n + k < pending s → slot_ok (passed_server s n) k ≡ true
  passed_slot k h =
      slot_same s (passed_server s n) (n + k) k
      (State.item_moved s S.sizes S.range.few n k h)
      (State.status-moved s S.sizes S.range.few n k h)
      (State.digest-moved s S.sizes S.range.few n k h)
      (State.tag-moved s S.sizes S.range.few n k h)
      (S.range.slots (n + k) h)

  pub passed_sound : Sound (passed_server s n)
  unfolding passed_server
  passed_sound =
      let r = S.range in
      let o = r.order in
      let w = r.few in
      record {
        range = record {
          order = omega arith;
          early = r.early;
          few = omega arith;
          counts = r.counts;
          statuses =
              all_append (λ x. leb x 2) (drop n s.statuses) (replicate n 0)
              (all_drop (λ x. leb x 2) s.statuses n r.statuses)
              (all_replicate (λ x. leb x 2) n 0 refl);
          slots = λ k h. passed_slot k (omega arith);
          items = rest_shift s.items (n * 41) ((s.placed - (s.passed + n)) * 41) (pending s * 41) (omega arith) r.items;
          unused = rest_shift s.statuses n (s.placed - (s.passed + n)) (pending s) (omega arith) r.unused;
          digests = rest_shift s.digests (n * 32) ((s.placed - (s.passed + n)) * 32) (pending s * 32) (omega arith) r.digests;
          tags = rest_shift s.tags (n * 32) ((s.placed - (s.passed + n)) * 32) (pending s * 32) (omega arith) r.tags;
        };
        sizes = State.passed_sizes s S.sizes r.few n l;
      }
