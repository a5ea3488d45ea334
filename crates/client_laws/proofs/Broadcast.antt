-- What a successful broadcast leaves: a replica in range, how its chain values and statuses move. Assumes nothing.
use Prim.Native.Nat.{ℕ, ◌+◌, ◌-◌, ◌<◌, ◌≤◌}
use mathlib.Core.Path.{◌≡◌, refl, ap, ◌∙◌}
use mathlib.Core.List.{List}
use mathlib.Core.Bool.{true}
use lib.Dec.{eqb}
use lib.ListN.{length}
use native.Mathlib.Omega.{arith}
use borrow.Author.Tests.{eqb-true}
use Rattle.slices.proofs.Laws.{same_yes}
use Rattle.operation.proofs.Temps.{Sixteen, effect_sixteen, effect_temps}
use Rattle.message.specs.declared.Commit.{Commit}
use Rattle.message.specs.Message.{commit_of}
use Rattle.verify.specs.Verify.{commit_tag, commit_tag_ok, link_value}
use Rattle.verify.proofs.Laws.{link_length}
use Rattle.replica.specs.declared.Replica.{Replica}
use Rattle.replica.specs.Places.{value_at, status_at}
use Rattle.replica.proofs.Places.{value-length, confirm-length, confirm_first, confirm_moves, confirm_unused, confirm_status_lem, confirm_statuses_length, confirm_statuses_ok, confirm_statuses_unused}
use Rattle.replica.specs.Replica.{After, in_range, stop}
use Rattle.checks.proofs.Laws.{cond_cases, call_cases}
use Rattle.replica.proofs.Laws.{ranged, in_range_lem, Sized, Sound, stop_sound}
use Rattle.client_broadcast.specs.Broadcast.{next_value, digest_ok, broadcast_no, confirmed_replica, broadcast_step}
use Rattle.client_broadcast.proofs.Laws.{broadcast_yes}

-- ---- what the checks of a successful broadcast come to
module _ (r : Replica) (m : List ℕ) (e : broadcast_no r m ≡ 0) where
  pub broadcast-tag : (commit_of m).tag
      ≡ commit_tag r.keys (commit_of m).op (commit_of m).author (commit_of m).seq (commit_of m).digest (commit_of m).status
  unfolding commit_tag_ok
  broadcast-tag = same_yes _ _ (broadcast_yes r m e).tag

  pub broadcast-digest : (commit_of m).digest ≡ next_value r (commit_of m)
  unfolding digest_ok
  broadcast-digest = same_yes _ _ (broadcast_yes r m e).digest

-- ---- the fields that stay, and the two numbers that move
pub record Advanced (r s : Replica) : Type 0 where
  pub number : s.number ≡ r.number
  pub keys : s.keys ≡ r.keys
  pub count : s.count ≡ r.count
  pub current : s.current ≡ r.current
  pub halt : s.halt ≡ r.halt
  pub confirmed : s.confirmed ≡ r.confirmed + 1
  pub held : s.held ≡ r.held - 1

pub advanced : (r : Replica) (k : Commit) → Advanced r (confirmed_replica r k)
unfolding confirmed_replica
advanced r k = record { number = refl; keys = refl; count = refl; current = refl; halt = refl; confirmed = refl; held = refl }

-- ---- the chain
-- the value confirmed: the held one, else the link of the message
pub next_held : (r : Replica) (k : Commit) → 1 ≤ r.held → next_value r k ≡ value_at r.confirmed 1 r.chain
unfolding next_value
next_held r k h = cond_cases (λ (v : List ℕ). v ≡ value_at r.confirmed 1 r.chain) (eqb r.held 0) _ _ (λ e. absurd (omega (arith, eqb-true r.held 0 e))) (λ e. refl)

pub next_none : (r : Replica) (k : Commit) → r.held ≡ 0 → next_value r k ≡ link_value (value_at r.confirmed 0 r.chain) k.op k.seq k.author
unfolding next_value
next_none r k h = rw h

module _ (r : Replica) (k : Commit) (l : length r.chain ≡ 1056) where
  pub next_length : length (next_value r k) ≡ 32
  unfolding next_value
  next_length =
      cond_cases (λ (v : List ℕ). length v ≡ 32) (eqb r.held 0) _ _
      (λ e. link_length (value_at r.confirmed 0 r.chain) k.op k.seq k.author)
      (λ e. value-length r.confirmed 1 r.chain l (omega arith))

  pub chain_length_lem : length (confirmed_replica r k).chain ≡ 1056
  unfolding confirmed_replica
  chain_length_lem = confirm-length r.confirmed (next_value r k) r.chain next_length l

  -- the value at the new c is the one confirmed; those past it stay at their places
  pub value_first : value_at (r.confirmed + 1) 0 (confirmed_replica r k).chain ≡ next_value r k
  unfolding confirmed_replica
  value_first = confirm_first r.confirmed (next_value r k) r.chain next_length l

  pub value_moves : (j : ℕ) → 1 ≤ j → j < 32 → value_at (r.confirmed + 1) j (confirmed_replica r k).chain ≡ value_at r.confirmed (j + 1) r.chain
  unfolding confirmed_replica
  value_moves j g h = confirm_moves r.confirmed (next_value r k) r.chain next_length l j g h

-- ---- the statuses and the cells
module _ (r : Replica) (k : Commit) where
  -- statuses stay at their places
  pub status_moves : (j : ℕ) → status_at (r.confirmed + 1) j (confirmed_replica r k).statuses ≡ status_at r.confirmed (j + 1) r.statuses
  unfolding confirmed_replica
  status_moves j = confirm_status_lem r.confirmed r.statuses j

  pub statuses_length : length r.statuses ≡ 32 → length (confirmed_replica r k).statuses ≡ 32
  unfolding confirmed_replica
  statuses_length h = confirm_statuses_length r.confirmed r.statuses h

  pub cells-length : Sixteen r.cells → Sixteen (confirmed_replica r k).cells
  unfolding confirmed_replica
  cells-length h = effect_sixteen (eqb k.status 1) k.op r.cells h

-- ---- the replica
module _ (r : Replica) (m : List ℕ) (e : broadcast_no r m ≡ 0) where
  abbrev k : Commit
  k = commit_of m

  pub broadcast_in_range : length r.chain ≡ 1056 → in_range (confirmed_replica r k) ≡ true
  unfolding confirmed_replica
  broadcast_in_range l =
      let y = broadcast_yes r m e in
      let g = ranged r y.range in
      in_range_lem (confirmed_replica r k) (record {
        low = g.low;
        high = g.high;
        count = g.count;
        confirmed = omega (arith, y.below);
        held = omega (arith, g.held);
        last = omega (arith, y.below, g.last);
        mark = g.mark;
        current = g.current;
        statuses = confirm_statuses_ok r.confirmed r.statuses g.statuses;
        unused = confirm_statuses_unused r.confirmed r.statuses r.held g.unused;
        rest = confirm_unused r.confirmed (next_value r k) r.chain (next_length r k l) l r.held g.rest;
        temps = effect_temps (eqb k.status 1) k.op r.cells y.fine.op g.temps;
      })

  pub broadcast_sized : Sized r → Sized (confirmed_replica r k)
  broadcast_sized s =
      record {
        keys = ap length (advanced r k).keys ∙ s.keys;
        chain = chain_length_lem r k s.chain;
        statuses = statuses_length r k s.statuses;
        cells = cells-length r k s.cells;
      }

-- ---- the call
-- it keeps both, whatever it is given
pub broadcast-sound : (r : Replica) (m : List ℕ) → Sound r → Sound (broadcast_step r m).replica
unfolding broadcast_step
broadcast-sound r m s =
    let n = broadcast_no r m in
    call_cases (λ (x : After). Sound x.replica) n _ (stop r n)
    (λ z. record { range = broadcast_in_range r m z s.sized.chain; sized = broadcast_sized r m z s.sized })
    (stop_sound r n s)
