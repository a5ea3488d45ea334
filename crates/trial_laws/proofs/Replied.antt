-- The world after a client took a reply and the server its commit is shown again. Assumes nothing.
use Prim.Native.Nat.{ℕ, ◌+◌, ◌<◌, ◌≤◌}
use mathlib.Core.Path.{◌≡◌, refl, sym, ap, ◌∙◌}
use mathlib.Core.List.{List, [], ◌∷◌, ◌++◌}
use mathlib.Core.Bool.{true, false}
use lib.ListN.{get_or, set, drop, length-set}
use lib.Seq.{get_or-set_same, get_or-set_other}
use native.Mathlib.Omega.{arith}
use native.Mathlib.Decide.{ℕ_discrete}
use Rattle.replica.specs.declared.Replica.{Replica}
use Rattle.replica.specs.Replica.{Step, zero_replica, no_current}
use Rattle.server.specs.Server as Sv
use Rattle.progress.specs.HonestRuns.{World, Line, update, put_one, put_all, pieces, written, rest}
use Rattle.progress.proofs.Acting.{update_same, update_other}
use Rattle.progress.proofs.OneWay.{replies}
use Rattle.trial_core.specs.Trial.{Lent, without_reply, queued_reply, kept_invoke, logged}
use Rattle.trial_core.specs.declared.Lines.{Lines}
use Rattle.trial_ways.proofs.Ring.{log_from, logged-length}
use Rattle.trial_ways.proofs.Ways.{Way, Quiet, end_quiet}
use Rattle.trial_ways.proofs.ServerCalls.{Passing}
use Rattle.trial_laws.proofs.ClientCalls.{Replying}
use Rattle.trial_ways.proofs.Reached.{Reached, none_current, server_ranged}
use Rattle.trial_ways.proofs.Shows.{ClientAt, Sizes, Shows, trues, by_client, replica_set}
use Rattle.trial_ways.proofs.Passing.{new_line, passed_client}

-- the bytes lent, with another log
abbrev pub relogged : Lent → List ℕ → Lent
relogged b log = record { log = log; replies = b.replies; invokes = b.invokes }

-- the world after the client's call q and the server's call y, which wrote k broadcasts
unfoldable pub replied_world : World → ℕ → Step → Sv.Step → ℕ → World
replied_world w n q y k =
    record {
      server = y.server;
      replica = update w.replica n q.after.replica;
      up = update (put_one w.up n (written q.wrote)) n (drop 1 (put_one w.up n (written q.wrote) n));
      down = put_all (update w.down n (rest q.after.says (w.down n))) (pieces k y.wrote);
    }

module _ (rs : List Replica) (l : Lines) (b : Lent) (w : World) (S : Shows rs l b w) (i : ℕ) (h : i < 8) (q : Step) (P : Replying q)
    (y : Sv.Step) (k : ℕ) (Q : Passing w.server q.wrote y k) (R : Reached (replied_world w (i + 1) q y k)) (up_none : w.up (i + 1) ≡ [])
    (way : Way b.log w.server.passed (get_or l.next i 0) (get_or l.before i 0) 0 [] (drop 1 (w.down (i + 1)))) where
  abbrev n : ℕ
  n = i + 1

  abbrev v : World
  v = replied_world w n q y k

  abbrev log : List ℕ
  log = logged b.log w.server.passed k y.wrote

  -- ---- lines after it
  up_wrote : put_one w.up n (written q.wrote) n ≡ q.wrote ∷ []
  unfolding put_one
  up_wrote = update_same w.up n n (w.up n ++ written q.wrote) refl ∙ rw (up_none, P.one)

  up_dec : (j : ℕ) → Dec (j ≡ n) → v.up j ≡ w.up j
  unfolding replied_world put_one
  up_dec j (yes e) =
      update_same _ n j _ e
      ∙ ap (drop 1) up_wrote
      ∙ sym up_none
      ∙ ap w.up (sym e)
  up_dec j (no e) = update_other _ n j _ e ∙ update_other w.up n j (w.up n ++ written q.wrote) e

  same_up : (j : ℕ) → v.up j ≡ w.up j
  same_up j = up_dec j (ℕ_discrete j n)

  down_own : v.down n ≡ drop 1 (w.down n) ++ pieces k y.wrote
  unfolding replied_world put_all
  down_own =
      ap (λ (x : Line). x ++ pieces k y.wrote) (update_same w.down n n (rest q.after.says (w.down n)) refl ∙ P.rest_told (w.down n))

  down_other : (j : ℕ) → (j ≡ i → ⊥) → v.down (j + 1) ≡ w.down (j + 1) ++ pieces k y.wrote
  unfolding replied_world put_all
  down_other j e =
      ap (λ (x : Line). x ++ pieces k y.wrote) (update_other w.down n (j + 1) (rest q.after.says (w.down n)) (λ x. e (omega arith)))

  -- ---- the new broadcasts are no replies, as none is on its way to a client without a current operation
  idle : no_current (v.replica n).current ≡ true
  unfolding replied_world
  idle = ap (λ (r : Replica). no_current r.current) (update_same w.replica n n q.after.replica refl) ∙ P.idle

  quiet : Quiet log w.server.passed (w.server.passed + k)
  quiet =
      let c = none_current v R i h idle in
      let e : replies (v.down n) ≡ replies (drop 1 (w.down n) ++ log_from log w.server.passed k)
      = ap replies (down_own ∙ ap (λ (x : Line). drop 1 (w.down n) ++ x) (sym (new_line b.log y.wrote w.server.passed k S.sizes.log Q.few Q.wrote))) in
      end_quiet log (drop 1 (w.down n)) w.server.passed k (omega arith)

  -- no client is more than 295 behind
  near : (j : ℕ) → j < 8 → w.server.passed + k ≤ get_or l.next j 0 + 295
  unfolding replied_world
  near j g = let o = (server_ranged v R).order in let c = S.bound j g in omega (arith, Q.placed, Q.passed)

  -- ---- clients
  own : ClientAt (without_reply l i) (relogged b log) v i
  unfolding replied_world without_reply
  own =
      let C = S.client i h in
      rw (Q.passed, get_or-set_same l.lengths i 0 0 (omega (arith, S.sizes.lengths)), same_up n, down_own)
      (passed_client b.log y.wrote w.server.passed k S.sizes.log Q.few Q.wrote (get_or l.next i 0) (get_or l.before i 0) 0 []
      (get_or l.refused i false) (kept_invoke b.invokes i) (w.up n) (drop 1 (w.down n)) (near i h) quiet
      (record { way = way; quiet = C.quiet; waits = C.waits; asks = C.asks }))

  other : (j : ℕ) → j < 8 → (j ≡ i → ⊥) → ClientAt (without_reply l i) (relogged b log) v j
  unfolding replied_world without_reply
  other j g e =
      rw (Q.passed, get_or-set_other l.lengths i j 0 0 e, same_up (j + 1), down_other j e)
      (passed_client b.log y.wrote w.server.passed k S.sizes.log Q.few Q.wrote (get_or l.next j 0) (get_or l.before j 0)
      (get_or l.lengths j 0) (queued_reply l b.replies j) (get_or l.refused j false) (kept_invoke b.invokes j) (w.up (j + 1)) (w.down (j + 1))
      (near j g) quiet (S.client j g))

  sizes : Sizes (set rs i q.after.replica) (without_reply l i) (relogged b log)
  unfolding without_reply
  sizes =
      let Z = S.sizes in
      record {
        replicas = length-set rs i q.after.replica ∙ Z.replicas;
        next = Z.next;
        before = Z.before;
        lengths = length-set l.lengths i 0 ∙ Z.lengths;
        refused = Z.refused;
        log = logged-length b.log y.wrote Z.log w.server.passed k (omega (arith, Q.wrote));
        replies = Z.replies;
        invokes = Z.invokes;
      }

  replicas : (j : ℕ) → j < 8 → get_or (set rs i q.after.replica) j zero_replica ≡ v.replica (j + 1)
  unfolding replied_world
  replicas = replica_set rs w.replica i q.after.replica S.sizes.replicas S.replica h

  bound : (j : ℕ) → j < 8 → v.server.placed + trues (without_reply l i).refused ≤ get_or (without_reply l i).next j 0 + 295
  unfolding replied_world without_reply
  bound j g = let c = S.bound j g in omega (arith, Q.placed)

  pub replied_shows : Shows (set rs i q.after.replica) (without_reply l i) (relogged b log) v
  replied_shows = record { sizes = sizes; replica = replicas; client = by_client (ClientAt (without_reply l i) (relogged b log) v) i own other; bound = bound }
