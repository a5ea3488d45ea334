-- What a successful reply implies of each item, and how the chain held afterwards links. Assumes nothing.
use Prim.Native.Nat.{ℕ, zero, suc, ◌+◌, ◌-◌, ◌<◌, ◌≤◌}
use mathlib.Core.Path.{◌≡◌, refl, sym, ap, ◌∙◌}
use mathlib.Core.Logic.{◌⊎◌, inl, inr, ⊎_elim}
use mathlib.Core.List.{List}
use mathlib.Core.Bool.{Bool, true, false, true≢false}
use lib.Dec.{ltb, eqb}
use lib.ListN.{length}
use native.Mathlib.Omega.{arith}
use native.Mathlib.Numerals.{add-one}
use native.Mathlib.Nat.{eq-or-lt_of_le, le_of_suc-le-suc}
use borrow.Author.Tests.{eqb-true, eq-eqb, lt-ltb, le-ltb, ltb-true, ltb-false}
use Rattle.slices.specs.Bytes.{same}
use Rattle.slices.proofs.Laws.{and_yes, same_yes}
use Rattle.operation.specs.declared.Operation.{Operation}
use Rattle.operation.specs.Operation.{same_op}
use Rattle.message.specs.declared.Item.{Item}
use Rattle.message.specs.Message.{reply_count, reply_item}
use Rattle.verify.specs.Verify.{invoke_tag, item_tag_ok}
use Rattle.replica.specs.declared.Replica.{Replica}
use Rattle.replica.specs.Places.{value_at, status_at, hold_value}
use Rattle.replica.proofs.Places.{value-put, value-kept}
use Rattle.checks.specs.Checks.{first_no}
use Rattle.checks.proofs.Laws.{Yes, all_yes, first_append}
use Rattle.client_reply.specs.Reply.{chain_item, chain_to, chain_after}
use Rattle.client_reply.proofs.Chain.{item_value-length, chain_length_lem}
use Rattle.client_reply_check.specs.ReplyChecks.{item_value, item_chain_ok, is_uncommitted, item_checks, items_checks, last_item, reply_no}
use Rattle.client_reply_check.proofs.Laws.{ItemAllowed, item_allowed, form_yes, reply_formed, items_passed, last_passed, last_yes}

by_test : (a b : ℕ) (t : Bool) → ltb b a ≡ t → (a ≤ b) ⊎ (b < a)
by_test a b true e = inr (ltb-true b a e)
by_test a b false e = inl (ltb-false b a e)

pub le-or-lt : (a b : ℕ) → (a ≤ b) ⊎ (b < a)
le-or-lt a b = by_test a b (ltb b a) refl

-- operations that pass the test are one
pub same_op_yes : (e f : Operation) → same_op e f ≡ true → e ≡ f
unfolding same_op
same_op_yes e f h =
    let a = and_yes _ (eqb e.last f.last) h in
    let b = and_yes _ (eqb e.amount f.amount) a.0 in
    let c = and_yes _ (eqb e.cell f.cell) b.0 in
    let d = and_yes (eqb e.count f.count) (eqb e.kind f.kind) c.0 in
    let p : e.count ≡ f.count = eqb-true _ _ d.0 in
    let q : e.kind ≡ f.kind = eqb-true _ _ d.1 in
    let s : e.cell ≡ f.cell = eqb-true _ _ c.1 in
    let t : e.amount ≡ f.amount = eqb-true _ _ b.1 in
    let u : e.last ≡ f.last = eqb-true _ _ a.1 in
    let z : ◌≡◌ {A = Operation}
    (record { count = e.count; kind = e.kind; cell = e.cell; amount = e.amount; last = e.last })
    (record { count = f.count; kind = f.kind; cell = f.cell; amount = f.amount; last = f.last })
    = rw (p, q, s, t, u)
    in
    z

-- where no item has a no, each check of each item has a yes
pub items_yes : (r : Replica) (m : List ℕ) (n : ℕ) → first_no 0 (items_checks r m n) ≡ 0 → (k : ℕ) → k < n → Yes (item_checks r (reply_count m) k (reply_item m k))
unfolding items_checks
items_yes r m zero e k h = absurd (omega arith)
items_yes r m (suc n) e k h =
    let qs = item_checks r (reply_count m) n (reply_item m n) in
    let y = all_yes (first_no 0 (items_checks r m n)) qs (refl, (refl, (refl, (refl, tt)))) (sym (first_append 0 (items_checks r m n) qs) ∙ e) in
    ⊎_elim (λ (q : k ≡ n). rw q y.1) (λ (l : k < n). items_yes r m n y.0 k l) (eq-or-lt_of_le (le_of_suc-le-suc h))

-- ---- an item's value
module _ (c k : ℕ) (i : Item) where
  -- it depends on the value before it only
  pub item_value_same : (s t : List ℕ) → value_at c k s ≡ value_at c k t → item_value c k i s ≡ item_value c k i t
  unfolding item_value
  item_value_same s t e = rw e

-- ---- the chain with the first items
module _ (c held : ℕ) (m chain : List ℕ) (l : length chain ≡ 1056) where
  abbrev to : ℕ → List ℕ
  to k = chain_to c held m chain k

  abbrev value : ℕ → List ℕ → List ℕ
  value k s = item_value c k (reply_item m k) s

  -- an item whose value is held changes nothing; another's value is put
  pub held_item : (k : ℕ) → k < held → to (suc k) ≡ to k
  unfolding chain_to chain_item
  held_item k h = rw (lt-ltb _ _ h)

  pub new_item : (k : ℕ) → held ≤ k → to (suc k) ≡ hold_value c (k + 1) (value k (to k)) (to k)
  unfolding chain_to chain_item
  new_item k h = rw (le-ltb _ _ h)

  -- a value that is there stays
  step_kept : (j k : ℕ) → j ≤ k → k < 32 → value_at c j (to (suc k)) ≡ value_at c j (to k)
  step_kept j k g h =
      let e : length (to k) ≡ 1056 = chain_length_lem c held m chain l k (omega arith) in
      ⊎_elim
      (λ (q : held ≤ k).
      ap (value_at c j) (new_item k q)
      ∙ value-kept c (k + 1) (value k (to k)) (to k) (item_value-length c k (reply_item m k) (to k)) e (omega arith) j (omega arith))
      (λ (q : k < held). ap (value_at c j) (held_item k q))
      (le-or-lt held k)

  more_kept : (j k d : ℕ) → j ≤ k → k + d ≤ 32 → value_at c j (to (k + d)) ≡ value_at c j (to k)
  more_kept j k zero g h = let e : k + zero ≡ k = omega arith in ap (λ (x : ℕ). value_at c j (to x)) e
  more_kept j k (suc d) g h =
      let e : k + suc d ≡ suc (k + d) = omega arith in
      ap (λ (x : ℕ). value_at c j (to x)) e ∙ step_kept j (k + d) (omega arith) (omega arith) ∙ more_kept j k d g (omega arith)

  pub chain_kept : (j k n : ℕ) → j ≤ k → k ≤ n → n ≤ 32 → value_at c j (to n) ≡ value_at c j (to k)
  chain_kept j k n g h f =
      let e : n ≡ k + (n - k) = omega arith in
      ap (λ (x : ℕ). value_at c j (to x)) e ∙ more_kept j k (n - k) g (omega arith)

  -- the values held before are those held afterwards
  pub held_kept : (j n : ℕ) → j ≤ held → n ≤ 32 → value_at c j (to n) ≡ value_at c j chain
  unfolding chain_to
  held_kept j zero g h = refl
  held_kept j (suc n) g h =
      let e = held_kept j n g (omega arith) in
      ⊎_elim
      (λ (q : held ≤ n). step_kept j n (omega arith) (omega arith) ∙ e)
      (λ (q : n < held). ap (value_at c j) (held_item n q) ∙ e)
      (le-or-lt held n)

  -- each item's chain value is the digest of its string, over the chain held afterwards
  pub chain_links : (k n : ℕ) → k < n → n ≤ 32 → item_chain_ok c held chain k (reply_item m k) ≡ true → value_at c (k + 1) (to n) ≡ value k (to n)
  unfolding item_chain_ok
  chain_links k n g h e =
      ⊎_elim
      (λ (q : held ≤ k).
      let z : length (to k) ≡ 1056 = chain_length_lem c held m chain l k (omega arith) in
      let w : length (value k (to k)) ≡ 32 = item_value-length c k (reply_item m k) (to k) in
      let s : to (k + 1) ≡ hold_value c (k + 1) (value k (to k)) (to k) = ap to (add-one k) ∙ new_item k q in
      chain_kept (k + 1) (k + 1) n (omega arith) (omega arith) h
      ∙ ap (value_at c (k + 1)) s
      ∙ value-put c (k + 1) (value k (to k)) (to k) w z (omega arith)
      ∙ item_value_same c k (reply_item m k) (to k) (to n) (sym (chain_kept k k n (omega arith) (omega arith) h)))
      (λ (q : k < held).
      let t : same (value k chain) (value_at c (k + 1) chain) ≡ true = rw (lt-ltb _ _ q) at e in
      held_kept (k + 1) n (omega arith) h
      ∙ sym (same_yes _ _ t)
      ∙ item_value_same c k (reply_item m k) chain (to n) (sym (held_kept k n (omega arith) h)))
      (le-or-lt held k)

-- ---- a successful reply
-- what it implies of item k
pub record ItemTaken (r : Replica) (m : List ℕ) (k : ℕ) : Type 0 where
  pub fine : ItemAllowed r.confirmed k (reply_item m k)
  pub tag : (reply_item m k).tag ≡ invoke_tag r.keys (reply_item m k).op (reply_item m k).author
  pub link : value_at r.confirmed (k + 1) (chain_after r m) ≡ item_value r.confirmed k (reply_item m k) (chain_after r m)

module _ (r : Replica) (m : List ℕ) (room : ℕ) (e : reply_no r m room ≡ 0) where
  few : reply_count m ≤ 32
  few = (form_yes r m room (reply_formed r m room e)).few

  pub item_taken : length r.chain ≡ 1056 → (k : ℕ) → k < reply_count m → ItemTaken r m k
  unfolding item_tag_ok chain_after
  item_taken l k h =
      let y = items_yes r m (reply_count m) (items_passed r m room e) k h in
      record {
        fine = item_allowed r.confirmed k (reply_item m k) y.0;
        tag = same_yes _ _ y.1.0;
        link = chain_links r.confirmed r.held m r.chain l k (reply_count m) h few y.1.1.0;
      }

  -- an own item before the last stands where a status is held
  pub own_committed : (k : ℕ) → k + 1 < reply_count m → (reply_item m k).author ≡ r.number → status_at r.confirmed k r.statuses ≡ 0 → ⊥
  unfolding is_uncommitted
  own_committed k h a z =
      let y = (items_yes r m (reply_count m) (items_passed r m room e) k (omega arith)).1.1.1.0 in
      true≢false (sym (rw (eq-eqb (reply_item m k).author r.number a, lt-ltb (k + 1) (reply_count m) h, eq-eqb (status_at r.confirmed k r.statuses) 0 z) at y))

  -- the last item is the current operation
  pub last_current : (last_item m).op ≡ r.current
  last_current = same_op_yes (last_item m).op r.current (last_yes r m (last_passed r m room e)).op

  -- values held before stay
  pub values_stay : length r.chain ≡ 1056 → (j : ℕ) → j ≤ r.held → value_at r.confirmed j (chain_after r m) ≡ value_at r.confirmed j r.chain
  unfolding chain_after
  values_stay l j h = held_kept r.confirmed r.held m r.chain l j (reply_count m) h few
