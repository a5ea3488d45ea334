-- "Question 21 stops a van with the earlier table, which never takes a temperature for flow" (document 02, Q-2). Assumes nothing.
use Prim.Native.Nat.{ℕ, zero, suc, ◌<◌}
use mathlib.Core.Path.{◌≡◌, refl, sym, ap, ◌∙◌}
use mathlib.Core.List.{List, [], ◌∷◌, ◌++◌}
use mathlib.Core.Bool.{Bool, true, false, not, ◌&&◌, ◌||◌, and-false}
use mathlib.Core.Logic.{inl, inr}
use native.Mathlib.Decide.{ℕ_discrete}
use native.Mathlib.Omega.{arith}
use borrow.Author.Tests.{leb-true, le-leb, lt-leb, ne_eqb}
use lib.Dec.{leb, eqb}
use Rattle.checks.specs.Checks.{every, first_no}
use Rattle.checks.proofs.Laws.{and_yes, first_stays, first_append, first_zero}
use Rattle.operation.specs.declared.Operation.{Operation}
use Rattle.operation.specs.Operation.{max_count, last_byte_ok, allowed, op_ok}
use Rattle.message.specs.declared.Item.{Item}
use Rattle.message.specs.declared.Commit.{Commit}
use Rattle.message.specs.Message.{reply_count, reply_item, commit_of}
use Rattle.replica.specs.declared.Replica.{Replica}
use Rattle.replica.specs.Replica.{halt, stop}
use Rattle.client_broadcast.specs.Broadcast.{seq_ok, form_checks, proof_checks}
use Rattle.client_reply_check.specs.ReplyChecks.{item_proof_checks, reply_form_checks, last_checks}
use Rattle.earlier_table.specs.Earlier.{earlier_allowed, earlier_ok, TempKind, earlier_commit_ok, earlier_listed_ok, earlier_broadcast_no, earlier_items_checks, earlier_reply_no}

-- ---- the tables
-- the earlier one allows no operation of kind 5 or 6
above_four : (e : Operation) → TempKind e → 4 < e.kind
above_four e (inl p) = omega arith
above_four e (inr p) = omega arith

pub none_earlier : (e : Operation) → TempKind e → earlier_ok e ≡ false
unfolding earlier_ok earlier_allowed
none_earlier e t = rw (lt-leb e.kind 4 (above_four e t), and-false (leb 1 e.kind)) (and-false (leb 1 e.count && leb e.count max_count))

-- the longer one allows what the earlier one did
pub earlier_allowed_lem : (e : Operation) → earlier_ok e ≡ true → op_ok e ≡ true
unfolding earlier_ok earlier_allowed op_ok allowed last_byte_ok
earlier_allowed_lem e h =
    let a = and_yes (leb 1 e.count && leb e.count max_count) _ h in
    let b = and_yes (leb 1 e.kind && leb e.kind 4 && leb e.cell 15 && (not (eqb e.kind 3) || eqb e.amount 0)) (eqb e.last 0) a.1 in
    let c = and_yes (leb 1 e.kind && leb e.kind 4 && leb e.cell 15) (not (eqb e.kind 3) || eqb e.amount 0) b.0 in
    let d = and_yes (leb 1 e.kind && leb e.kind 4) (leb e.cell 15) c.0 in
    let k = and_yes (leb 1 e.kind) (leb e.kind 4) d.0 in
    let four = leb-true e.kind 4 k.1 in
    rw (a.0, k.0, le-leb e.kind 6 (omega arith), d.1, ne_eqb e.kind 6 (λ q. omega arith), ne_eqb e.kind 5 (λ q. omega arith), b.1) (read (not (eqb e.kind 3)) c.1)
  where
    read : (b : Bool) → (b || eqb e.amount 0) ≡ true → ((b && true || eqb e.amount 0) && true) ≡ true
    read true q = refl
    read false q = rw q

-- ---- check 21
first_false : {a : Bool} (b c d : Bool) → a ≡ false → every true (a ∷ b ∷ c ∷ d ∷ []) ≡ false
first_false b c d e = rw e

commit_no : (k : Commit) → TempKind k.op → earlier_commit_ok k ≡ false
unfolding earlier_commit_ok
commit_no k t = first_false _ _ _ (none_earlier k.op t)

item_no : (c k : ℕ) (i : Item) → TempKind i.op → earlier_listed_ok c k i ≡ false
unfolding earlier_listed_ok
item_no c k i t = first_false _ _ _ (none_earlier i.op t)

-- a check 21 with a no, once no check before it has one
at_21 : {b : Bool} (before after : List (Bool × ℕ)) → b ≡ false → first_no 0 before ≡ 0 → first_no 0 (before ++ ((b, 21) ∷ after)) ≡ 21
at_21 before after e z =
    first_append 0 before _ ∙ rw (z, e) (first_stays 21 after refl)

-- ---- a broadcast of kind 5 or 6
module _ (r : Replica) (m : List ℕ) (t : TempKind (commit_of m).op) where
  -- halts the client that 8, 3 and 20 let go on
  pub broadcast_21 : first_no 0 (form_checks r m) ≡ 0 → earlier_broadcast_no r m ≡ 21
  unfolding earlier_broadcast_no
  broadcast_21 z = at_21 (form_checks r m) ((seq_ok r (commit_of m), 25) ∷ proof_checks r (commit_of m)) (commit_no (commit_of m) t) z

  pub broadcast_halts : first_no 0 (form_checks r m) ≡ 0 → stop r (earlier_broadcast_no r m) ≡ halt r 21
  broadcast_halts z = rw (broadcast_21 z)

  -- and is never taken
  pub broadcast_never : earlier_broadcast_no r m ≡ 0 → ⊥
  unfolding earlier_broadcast_no
  broadcast_never e =
      let rest : List (Bool × ℕ) = (earlier_commit_ok (commit_of m), 21) ∷ (seq_ok r (commit_of m), 25) ∷ proof_checks r (commit_of m) in
      let z = first_zero (first_no 0 (form_checks r m)) rest (sym (first_append 0 (form_checks r m) rest) ∙ e) in
      omega (arith, broadcast_21 z, e)

-- ---- a reply with an item of kind 5 or 6
module _ (r : Replica) (m : List ℕ) (room k : ℕ) (t : TempKind (reply_item m k).op) where
  form : ℕ
  form = first_no 0 (reply_form_checks r m room)

  -- the first n items' checks, after those of the form
  items : ℕ → ℕ
  items n = first_no form (earlier_items_checks r m n)

  -- one item more
  abbrev item : ℕ → List (Bool × ℕ)
  item j = (earlier_listed_ok r.confirmed j (reply_item m j), 21) ∷ item_proof_checks r j (reply_item m j)

  one_more : (j : ℕ) → items (suc j) ≡ first_no (items j) (item j)
  unfolding items earlier_items_checks
  one_more j = first_append form (earlier_items_checks r m j) (item j)

  -- item k's 21 decides, once no check before it has a no
  decides : items k ≡ 0 → items (suc k) ≡ 21
  decides z = one_more k ∙ rw (z, item_no r.confirmed k (reply_item m k) t) (first_stays 21 (item_proof_checks r k (reply_item m k)) refl)

  at_item : (n : ℕ) → k < n → items k ≡ 0 → items n ≡ 21
  at_item zero h z = absurd (omega arith)
  at_item (suc j) h z = go (ℕ_discrete k j) (λ l. at_item j l z)
    where
      go : Dec (k ≡ j) → (k < j → items j ≡ 21) → items (suc j) ≡ 21
      go (yes p) f = ap (λ (i : ℕ). items (suc i)) (sym p) ∙ decides z
      go (no n) f = one_more j ∙ rw (f (omega arith)) (first_stays 21 (item j) refl)

  -- no check of the first n items has a no: nor has one of the first k
  fewer : (n : ℕ) → k < n → items n ≡ 0 → items k ≡ 0
  fewer zero h z = absurd (omega arith)
  fewer (suc j) h z = go (ℕ_discrete k j) (λ l. fewer j l (first_zero (items j) (item j) (sym (one_more j) ∙ z)))
    where
      go : Dec (k ≡ j) → (k < j → items k ≡ 0) → items k ≡ 0
      go (yes p) f = ap items p ∙ first_zero (items j) (item j) (sym (one_more j) ∙ z)
      go (no n) f = f (omega arith)

  split : earlier_reply_no r m room ≡ first_no (items (reply_count m)) (last_checks r m)
  unfolding earlier_reply_no items form
  split =
      first_append 0 (reply_form_checks r m room) (earlier_items_checks r m (reply_count m) ++ last_checks r m)
      ∙ first_append form (earlier_items_checks r m (reply_count m)) (last_checks r m)

  -- halts the client, once no check before that item's has a no
  pub reply_21 : k < reply_count m → first_no 0 (reply_form_checks r m room ++ earlier_items_checks r m k) ≡ 0 → earlier_reply_no r m room ≡ 21
  unfolding items form
  reply_21 h z =
      split ∙ rw (at_item (reply_count m) h (sym (first_append 0 (reply_form_checks r m room) (earlier_items_checks r m k)) ∙ z)) (first_stays 21 (last_checks r m) refl)

  pub reply_halts : k < reply_count m → first_no 0 (reply_form_checks r m room ++ earlier_items_checks r m k) ≡ 0 → stop r (earlier_reply_no r m room) ≡ halt r 21
  reply_halts h z = rw (reply_21 h z)

  -- and is never taken
  pub reply_never : k < reply_count m → earlier_reply_no r m room ≡ 0 → ⊥
  reply_never h e =
      let all = first_zero (items (reply_count m)) (last_checks r m) (sym split ∙ e) in
      omega (arith, at_item (reply_count m) h (fewer (reply_count m) h all), all)
