-- Opening and invoking leave a replica in range, with arrays as long as they were. Assumes nothing.
use Prim.Native.Nat.{ℕ, ◌+◌, ◌≤◌}
use mathlib.Core.Path.{◌≡◌, refl}
use mathlib.Core.List.{List, [], ◌∷◌}
use mathlib.Core.Bool.{true, ◌&&◌, or-true}
use lib.Dec.{leb, eqb}
use lib.ListN.{length}
use native.Mathlib.Omega.{arith}
use borrow.Author.Tests.{leb-true, eqb-true, le-leb}
use Rattle.operation.specs.Operation.{op_ok}
use Rattle.replica.specs.declared.Replica.{Replica}
use Rattle.replica.specs.Outcome.{invoked}
use Rattle.replica.specs.Replica.{Step, in_range, no_current, fresh_replica, stop_step}
use Rattle.replica.proofs.Places.{no_values_length, none_ok, none_status, none_held}
use Rattle.checks.proofs.Laws.{all_yes, and_yes, call_cases}
use Rattle.replica.proofs.Laws.{ranged, in_range_lem, Sized, Sound, stop_sound}
use Rattle.client_open.specs.Open.{open_no}
use Rattle.operation.proofs.Temps.{zero_temps}
use Rattle.client_invoke.specs.Invoke.{invoke_no, new_op, invoked_replica, invoke_message, invoke_step}
use Rattle.client_invoke.proofs.Laws.{invoke_yes}

-- ---- opening
-- what a successful opening implies
pub record Opened (n : ℕ) (keys : List ℕ) : Type 0 where
  pub low : 1 ≤ n
  pub high : n ≤ 8
  pub long : length keys ≡ 256

module _ (n : ℕ) (keys : List ℕ) (e : open_no n keys ≡ 0) where
  pub open_yes : Opened n keys
  unfolding open_no
  open_yes =
      let y = (all_yes 0 ((leb 1 n && leb n 8, 1) ∷ (eqb (length keys) 256, 2) ∷ []) (refl, (refl, tt)) e).1 in
      let h = and_yes (leb 1 n) (leb n 8) y.0 in
      record { low = leb-true _ _ h.0; high = leb-true _ _ h.1; long = eqb-true _ _ y.1.0 }

  pub open_in_range : in_range (fresh_replica n keys) ≡ true
  open_in_range =
      in_range_lem (fresh_replica n keys) (record {
        low = open_yes.low;
        high = open_yes.high;
        count = omega arith;
        confirmed = omega arith;
        held = omega arith;
        last = omega arith;
        mark = refl;
        current = refl;
        statuses = none_ok;
        unused = none_status;
        rest = none_held;
        temps = zero_temps;
      })

  pub open_sized : Sized (fresh_replica n keys)
  open_sized = record { keys = open_yes.long; chain = no_values_length; statuses = refl; cells = (refl, refl) }

  pub open_sound : Sound (fresh_replica n keys)
  open_sound = record { range = open_in_range; sized = open_sized }

-- ---- invoking
module _ (r : Replica) (kind cell amount last room : ℕ) (e : invoke_no r kind cell amount last room ≡ 0) where
  -- the new current operation is allowed
  pub invoke_current : op_ok (new_op r kind cell amount last) ≡ true
  unfolding op_ok
  invoke_current =
      let y = invoke_yes r kind cell amount last room e in
      let a : 1 ≤ r.count + 1 = omega arith in
      let b : r.count + 1 ≤ 1000000 = omega (arith, y.below) in
      rw (le-leb _ _ a, le-leb _ _ b, y.fine)

  pub invoke_in_range : in_range (invoked_replica r (new_op r kind cell amount last)) ≡ true
  invoke_in_range =
      let y = invoke_yes r kind cell amount last room e in
      let g = ranged r y.range in
      in_range_lem (invoked_replica r (new_op r kind cell amount last)) (record {
        low = g.low;
        high = g.high;
        count = omega (arith, y.below);
        confirmed = g.confirmed;
        held = g.held;
        last = g.last;
        mark = g.mark;
        current = rw invoke_current (or-true (no_current (new_op r kind cell amount last)));
        statuses = g.statuses;
        unused = g.unused;
        rest = g.rest;
        temps = g.temps;
      })

  pub invoke_sized : Sized r → Sized (invoked_replica r (new_op r kind cell amount last))
  invoke_sized s = record { keys = s.keys; chain = s.chain; statuses = s.statuses; cells = s.cells }

-- ---- the call
module _ (r : Replica) (kind cell amount last room : ℕ) where
  pub invoke_done : invoke_no r kind cell amount last room ≡ 0
      → invoke_step r kind cell amount last room
      ≡ record {
        after = record { replica = invoked_replica r (new_op r kind cell amount last); says = invoked (r.count + 1) };
        wrote = invoke_message r (new_op r kind cell amount last);
      }
  unfolding invoke_step
  invoke_done e = rw e

-- it keeps both, whatever it is given
pub invoke-sound : (r : Replica) (kind cell amount last room : ℕ) → Sound r → Sound (invoke_step r kind cell amount last room).after.replica
unfolding invoke_step
invoke-sound r kind cell amount last room s =
    let n = invoke_no r kind cell amount last room in
    call_cases (λ (x : Step). Sound x.after.replica) n _ (stop_step r n)
    (λ z. record { range = invoke_in_range r kind cell amount last room z; sized = invoke_sized r kind cell amount last room z s.sized })
    (stop_sound r n s)
