-- Laws of the checks of a reply: their stages, and what a success implies. Assumes nothing.
use Prim.Native.Nat.{ℕ, zero, suc, ◌+◌, ◌-◌, ◌*◌, ◌<◌, ◌≤◌}
use mathlib.Core.Path.{◌≡◌, refl, sym, ap, ◌∙◌}
use mathlib.Core.List.{List, [], ◌∷◌, ◌++◌}
use mathlib.Core.Bool.{Bool, true, false, ◌&&◌}
use lib.Dec.{leb, eqb}
use lib.ListN.{length}
use native.Mathlib.Omega.{arith}
use native.Mathlib.Numerals.{add-one}
use borrow.Author.Tests.{leb-true, eqb-true, le-leb, lt-leb}
use Rattle.operation.specs.Operation.{op_ok, same_op}
use Rattle.message.specs.declared.Item.{Item}
use Rattle.message.specs.Message.{is_reply, reply_count, reply_item}
use Rattle.message.proofs.Laws.{reply-length, reply_count_lem}
use Rattle.replica.specs.declared.Replica.{Replica}
use Rattle.checks.specs.Checks.{first_no, also_no}
use Rattle.checks.proofs.Laws.{first_stays, first_append, first_zero, all_yes, every_yes}
use Rattle.replica.specs.Replica.{in_range}
use Rattle.replica.proofs.Laws.{ranged}
use Rattle.client_reply_check.specs.ReplyChecks.{seq_at, listed_ok, item_checks, items_checks, last_item, last_ok, reply_form_checks, last_checks, reply_no}

-- ---- an item's checks
pub record ItemAllowed (c k : ℕ) (i : Item) : Type 0 where
  pub op : op_ok i.op ≡ true
  pub low : 1 ≤ i.author
  pub high : i.author ≤ 8
  pub seq : seq_at c k ≤ 1000000

pub item_allowed : (c k : ℕ) (i : Item) → listed_ok c k i ≡ true → ItemAllowed c k i
unfolding listed_ok
item_allowed c k i e =
    let y = (every_yes true (op_ok i.op ∷ leb 1 i.author ∷ leb i.author 8 ∷ leb (seq_at c k) 1000000 ∷ []) e).1 in
    record { op = y.0; low = leb-true _ _ y.1.0; high = leb-true _ _ y.1.1.0; seq = leb-true _ _ y.1.1.1.0 }

-- one item more
pub items_more : (r : Replica) (m : List ℕ) (k : ℕ)
    → first_no (first_no 0 (items_checks r m k)) (item_checks r (reply_count m) k (reply_item m k)) ≡ first_no 0 (items_checks r m (k + 1))
unfolding items_checks
items_more r m k = rw add-one (sym (first_append 0 (items_checks r m k) (item_checks r (reply_count m) k (reply_item m k))))

-- what stops one item stops all
items_stay : (r : Replica) (m : List ℕ) (k j n : ℕ) → n ≡ j + k → eqb (first_no 0 (items_checks r m k)) 0 ≡ false
    → first_no 0 (items_checks r m n) ≡ first_no 0 (items_checks r m k)
unfolding items_checks
items_stay r m k zero n p e = let q : n ≡ k = omega arith in ap (λ (x : ℕ). first_no 0 (items_checks r m x)) q
items_stay r m k (suc j) n p e =
    let q : n ≡ suc (j + k) = omega arith in
    let h = items_stay r m k j (j + k) refl e in
    let c = item_checks r (reply_count m) (j + k) (reply_item m (j + k)) in
    let x = first_no 0 (items_checks r m (j + k)) in
    ap (λ (x : ℕ). first_no 0 (items_checks r m x)) q ∙ first_append 0 (items_checks r m (j + k)) c ∙ first_stays x c (rw h e) ∙ h

-- item k, where no item before it stops
module _ (r : Replica) (m : List ℕ) (n : ℕ) (e : n ≡ reply_count m) (k : ℕ) (i : Item) (f : i ≡ reply_item m k)
    (z : first_no 0 (items_checks r m k) ≡ 0) where
  one_more : first_no 0 (item_checks r n k i) ≡ first_no 0 (items_checks r m (k + 1))
  one_more =
      rw (e, f) (ap (λ (x : ℕ). first_no x (item_checks r (reply_count m) k (reply_item m k))) (sym z) ∙ items_more r m k)

  pub item_goes : first_no 0 (item_checks r n k i) ≡ 0 → first_no 0 (items_checks r m (k + 1)) ≡ 0
  item_goes h = sym one_more ∙ h

  pub item_stops : eqb (first_no 0 (item_checks r n k i)) 0 ≡ false → k + 1 ≤ n → first_no 0 (item_checks r n k i) ≡ first_no 0 (items_checks r m n)
  item_stops h g =
      let p : n ≡ n - (k + 1) + (k + 1) = omega arith in
      one_more ∙ sym (items_stay r m (k + 1) (n - (k + 1)) n p (rw (sym one_more) h))

-- ---- the last item
module _ (r : Replica) (m : List ℕ) (n : ℕ) (e : n ≡ reply_count m) where
  pub last_goes : (i : Item) → 1 ≤ n → i ≡ reply_item m (n - 1) → (same_op i.op r.current && eqb i.author r.number) ≡ last_ok r m
  unfolding last_ok
  last_goes i h f =
      let g : 1 ≤ reply_count m = omega arith in
      let j : i ≡ reply_item m (reply_count m - 1) = f ∙ rw e in
      rw (j, le-leb _ _ g)

  pub last_stops : n < 1 → false ≡ last_ok r m
  unfolding last_ok
  last_stops h = let g : reply_count m < 1 = omega arith in rw (lt-leb _ _ g)

-- ---- the stages of the checks
abbrev rest : Replica → List ℕ → List (Bool × ℕ)
rest r m = items_checks r m (reply_count m) ++ last_checks r m

-- what the first checks settle
pub record Formed (r : Replica) (m : List ℕ) (room : ℕ) : Type 0 where
  pub range : in_range r ≡ true
  pub clear : r.halt ≡ 0
  pub form : is_reply m ≡ true
  pub long : length m ≡ 3 + reply_count m * 41
  pub few : reply_count m ≤ 32
  pub early : r.confirmed ≤ 1000000
  pub low : 1 ≤ r.number
  pub high : r.number ≤ 8
  pub enough : 80 ≤ room

module _ (r : Replica) (m : List ℕ) (room : ℕ) where
  pub form_yes : first_no 0 (reply_form_checks r m room) ≡ 0 → Formed r m room
  form_yes e =
      let y = (all_yes 0 (reply_form_checks r m room) (refl, (refl, (refl, (refl, tt)))) e).1 in
      let g = ranged r y.0 in
      record {
        range = y.0;
        clear = eqb-true _ _ y.1.0;
        form = y.1.1.0;
        long = reply-length m y.1.1.0;
        few = reply_count_lem m y.1.1.0;
        early = g.confirmed;
        low = g.low;
        high = g.high;
        enough = leb-true _ _ y.1.1.1.0;
      }

  pub form_stops : eqb (first_no 0 (reply_form_checks r m room)) 0 ≡ false → first_no 0 (reply_form_checks r m room) ≡ reply_no r m room
  unfolding reply_no
  form_stops e = sym (first_stays (first_no 0 (reply_form_checks r m room)) (rest r m) e)

  pub rest_decides : first_no 0 (reply_form_checks r m room) ≡ 0 → (q : ℕ) (l : Bool)
      → q ≡ first_no 0 (items_checks r m (reply_count m)) → l ≡ last_ok r m → also_no q (l, 24) ≡ reply_no r m room
  unfolding reply_no
  rest_decides e q l f g =
      rw (f, g) (sym (ap (λ (n : ℕ). first_no n (rest r m)) e ∙ first_append 0 (items_checks r m (reply_count m)) (last_checks r m)))

  pub reply_formed : reply_no r m room ≡ 0 → first_no 0 (reply_form_checks r m room) ≡ 0
  unfolding reply_no
  reply_formed e = first_zero (first_no 0 (reply_form_checks r m room)) (rest r m) e

  -- each item's checks are passed
  pub items_passed : reply_no r m room ≡ 0 → first_no 0 (items_checks r m (reply_count m)) ≡ 0
  unfolding reply_no
  items_passed e =
      let n = first_no 0 (reply_form_checks r m room) in
      let z : n ≡ 0 = first_zero n (rest r m) e in
      ap (λ (x : ℕ). first_no x (items_checks r m (reply_count m))) (sym z)
      ∙ first_zero (first_no n (items_checks r m (reply_count m))) (last_checks r m) (sym (first_append n (items_checks r m (reply_count m)) (last_checks r m)) ∙ e)

  pub last_passed : reply_no r m room ≡ 0 → last_ok r m ≡ true
  unfolding reply_no
  last_passed e =
      let n = first_no 0 (reply_form_checks r m room) in
      (all_yes (first_no n (items_checks r m (reply_count m))) (last_checks r m) (refl, tt) (sym (first_append n (items_checks r m (reply_count m)) (last_checks r m)) ∙ e)).1.0

-- what the last check settles
pub record Last (r : Replica) (m : List ℕ) : Type 0 where
  pub some : 1 ≤ reply_count m
  pub op : same_op (last_item m).op r.current ≡ true
  pub author : (last_item m).author ≡ r.number

pub last_yes : (r : Replica) (m : List ℕ) → last_ok r m ≡ true → Last r m
unfolding last_ok
last_yes r m e =
    let y = (every_yes true (leb 1 (reply_count m) ∷ same_op (last_item m).op r.current ∷ eqb (last_item m).author r.number ∷ []) e).1 in
    record { some = leb-true _ _ y.0; op = y.1.0; author = eqb-true _ _ y.1.1.0 }
