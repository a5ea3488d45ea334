-- A client takes a broadcast: the program's move is the run's action. Assumes nothing.
use Prim.Native.Nat.{ℕ, ◌+◌, ◌<◌, ◌≤◌}
use mathlib.Core.Path.{◌≡◌, refl, sym, ap, subst, ◌∙◌}
use mathlib.Core.List.{List, ◌∷◌, ◌++◌, append-nil}
use lib.ListN.{get_or, set, drop, length-set}
use lib.Seq.{get_or-set_same, get_or-set_other}
use native.Mathlib.Omega.{arith}
use Rattle.replica.specs.declared.Replica.{Replica}
use Rattle.replica.specs.Replica.{Step, zero_replica}
use Rattle.client.specs.Receive.{receive_step}
use Rattle.progress.specs.HonestRuns as H
use Rattle.progress.specs.HonestRuns.{World, act, deliver_in, deliver_head, put_one, written, rest}
use Rattle.progress.proofs.Acting.{update_same, update_other}
use Rattle.trial_core.specs.Trial.{Lent, without_broadcast, logged_broadcast, queued_reply, confirmed_move}
use Rattle.trial_core.specs.declared.Lines.{Lines}
use Rattle.trial_ways.proofs.Ways.{Way, way_confirmed}
use Rattle.trial_laws.proofs.ClientCalls.{Confirming, confirm_step}
use Rattle.trial_ways.proofs.Reached.{Reached, takes}
use Rattle.trial_ways.proofs.Shows.{ClientAt, Sizes, Shows, trues, by_client, replica_set, update_idle}
use Rattle.trial_laws.proofs.InvokeMove.{Moved}

module _ (rs : List Replica) (l : Lines) (b : Lent) (w : World) (S : Shows rs l b w) (R : Reached w) (i : ℕ) (h : i < 8)
    (behind : get_or l.next i 0 < w.server.passed)
    (later : 1 ≤ get_or l.lengths i 0 → get_or l.lengths i 0 ≤ 1315 → get_or l.before i 0 ≡ get_or l.next i 0 → ⊥) where
  abbrev n : ℕ
  n = i + 1

  abbrev next : ℕ
  next = get_or l.next i 0

  abbrev m : List ℕ
  m = logged_broadcast b.log next

  taken : (w.down n ≡ m ∷ drop 1 (w.down n))
      × Way b.log w.server.passed (next + 1) (get_or l.before i 0) (get_or l.lengths i 0) (queued_reply l b.replies i) (drop 1 (w.down n))
  taken =
      way_confirmed b.log w.server.passed next (get_or l.before i 0) (get_or l.lengths i 0) (queued_reply l b.replies i) (w.down n) behind later
      (S.client i h).way

  pub broadcast_head : w.down n ≡ m ∷ drop 1 (w.down n)
  broadcast_head = taken.0

  abbrev q : Step
  q = receive_step (w.replica n) m 80

  pub confirming : Confirming q
  confirming = confirm_step (w.replica n) m 80 ((S.client i h).quiet next (omega arith) behind) (takes w R i h m (drop 1 (w.down n)) broadcast_head)

  abbrev v : World
  v = deliver_in w n m 80

  delivered : act w (H.deliver n 80) ≡ v
  unfolding act deliver_head
  delivered = ap (deliver_head w n 80) broadcast_head

  -- ---- lines after it
  same_line : w.up n ≡ w.up n ++ written q.wrote
  unfolding written
  same_line = rw confirming.none (sym (append-nil (w.up n)))

  same_up : (j : ℕ) → v.up j ≡ w.up j
  unfolding deliver_in put_one
  same_up j = update_idle w.up n j (w.up n ++ written q.wrote) same_line

  down_own : v.down n ≡ drop 1 (w.down n)
  unfolding deliver_in
  down_own = update_same w.down n n (rest q.after.says (w.down n)) refl ∙ confirming.rest_told (w.down n)

  -- ---- clients
  abbrev l2 : Lines
  l2 = without_broadcast l i

  own : ClientAt l2 b v i
  unfolding deliver_in without_broadcast
  own =
      let C = S.client i h in
      rw (get_or-set_same l.next i (next + 1) 0 (omega (arith, S.sizes.next)), same_up n, down_own)
      (record { way = taken.1; quiet = λ j g k. C.quiet j (omega arith) k; waits = C.waits; asks = C.asks })

  other : (j : ℕ) → j < 8 → (j ≡ i → ⊥) → ClientAt l2 b v j
  unfolding deliver_in without_broadcast
  other j g e =
      rw (
        get_or-set_other l.next i j (next + 1) 0 e,
        same_up (j + 1),
        update_other w.down n (j + 1) (rest q.after.says (w.down n)) (λ x. e (omega arith)),
      )
      (S.client j g)

  sizes : Sizes (set rs i q.after.replica) l2 b
  unfolding without_broadcast
  sizes =
      let Z = S.sizes in
      record {
        replicas = length-set rs i q.after.replica ∙ Z.replicas;
        next = length-set l.next i (next + 1) ∙ Z.next;
        before = Z.before;
        lengths = Z.lengths;
        refused = Z.refused;
        log = Z.log;
        replies = Z.replies;
        invokes = Z.invokes;
      }

  replicas : (j : ℕ) → j < 8 → get_or (set rs i q.after.replica) j zero_replica ≡ v.replica (j + 1)
  unfolding deliver_in
  replicas = replica_set rs w.replica i q.after.replica S.sizes.replicas S.replica h

  bound : (j : ℕ) → j < 8 → v.server.placed + trues l2.refused ≤ get_or l2.next j 0 + 295
  unfolding deliver_in without_broadcast
  bound =
      by_client (λ (j : ℕ). w.server.placed + trues l.refused ≤ get_or (set l.next i (next + 1)) j 0 + 295) i
      (let c = S.bound i h in rw (get_or-set_same l.next i (next + 1) 0 (omega (arith, S.sizes.next))) (omega arith))
      (λ j g e. rw (get_or-set_other l.next i j (next + 1) 0 e) (S.bound j g))

  shown : Shows (set rs i q.after.replica) l2 b v
  shown = record { sizes = sizes; replica = replicas; client = by_client (ClientAt l2 b v) i own other; bound = bound }

  shown_server : Moved rs i v (confirmed_move q w.server l i b)
  unfolding confirmed_move deliver_in
  shown_server = (shown, refl)

  pub confirmed_move_lem : Moved rs i (act w (H.deliver n 80)) (confirmed_move q w.server l i b)
  confirmed_move_lem = subst (λ (x : World). Moved rs i x (confirmed_move q w.server l i b)) (sym delivered) shown_server
