-- Laws of invoking: what a success implies, and what each case comes to. Assumes nothing.
use Prim.Native.Nat.{ℕ, ◌+◌, ◌<◌, ◌≤◌}
use mathlib.Core.Path.{◌≡◌, refl}
use mathlib.Core.List.{List, ◌++◌}
use mathlib.Core.Bool.{true, false}
use lib.Dec.{eqb}
use lib.ListN.{length, drop}
use borrow.Author.Tests.{leb-true, ltb-true, eqb-true}
use Rattle.slices.specs.Bytes.{big_endian}
use Rattle.operation.specs.declared.Operation.{Operation}
use Rattle.operation.specs.Operation.{allowed, op_bytes}
use Rattle.message.specs.Message.{invoke_string, invoke_bytes}
use Rattle.verify.proofs.Laws.{invoke-tag-length}
use Rattle.replica.specs.declared.Replica.{Replica}
use Rattle.replica.specs.Outcome.{invoked}
use Rattle.replica.specs.Replica.{Step, over, stop, in_range, no_current}
use Rattle.checks.proofs.Laws.{all_yes}
use Rattle.client_invoke.specs.Invoke.{invoke_checks, invoke_no, new_op, invoked_replica, invoke_message, invoke_step}

-- what a successful invoke implies
pub record Invoked (r : Replica) (kind cell amount last room : ℕ) : Type 0 where
  pub range : in_range r ≡ true
  pub clear : r.halt ≡ 0
  pub none : no_current r.current ≡ true
  pub fine : allowed kind cell amount last ≡ true
  pub below : r.count < 1000000
  pub enough : 43 ≤ room

pub invoke_yes : (r : Replica) (kind cell amount last room : ℕ) → invoke_no r kind cell amount last room ≡ 0 → Invoked r kind cell amount last room
unfolding invoke_no
invoke_yes r kind cell amount last room e =
    let y = (all_yes 0 (invoke_checks r kind cell amount last room) (refl, (refl, (refl, (refl, (refl, (refl, tt)))))) e).1 in
    record {
      range = y.0;
      clear = eqb-true _ _ y.1.0;
      none = y.1.1.0;
      fine = y.1.1.1.0;
      below = ltb-true _ _ y.1.1.1.1.0;
      enough = leb-true _ _ y.1.1.1.1.1.0;
    }

-- the message is 43 bytes long
pub invoke_length_lem : (r : Replica) (e : Operation) → length (invoke_message r e) ≡ 43
unfolding invoke_message invoke_bytes invoke_string op_bytes big_endian
invoke_length_lem r e = rw (invoke-tag-length r.keys e r.number)

-- the two cases of an invoke
module _ (r : Replica) (kind cell amount last : ℕ) (out : List ℕ) where
  abbrev step : Step
  step = invoke_step r kind cell amount last (length out)

  pub invoke-stops : eqb (invoke_no r kind cell amount last (length out)) 0 ≡ false
      → (stop r (invoke_no r kind cell amount last (length out)) ≡ step.after) × (out ≡ over step.wrote out)
  unfolding invoke_step
  invoke-stops e = (rw e, rw e)

  pub invoke_goes : invoke_no r kind cell amount last (length out) ≡ 0
      → (record { replica = invoked_replica r (new_op r kind cell amount last); says = invoked (r.count + 1) } ≡ step.after)
      × (invoke_message r (new_op r kind cell amount last) ++ drop 43 out ≡ over step.wrote out)
  unfolding invoke_step
  invoke_goes e = (rw e, rw (e, invoke_length_lem r (new_op r kind cell amount last)))
