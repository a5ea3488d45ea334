-- The client's state (document 01: the van's book): fresh, in range (check 8), refused, halted; and checks in order. Its places: Places.antt.
use Rattle.std.specs.Prelude.{ℕ, ◌+◌, List, [], ◌∷◌, ◌++◌, Bool, true, cond, ◌||◌, length, drop, replicate, leb, eqb}
use Rattle.checks.specs.Checks.{every}
use Rattle.operation.specs.declared.Operation.{Operation}
use Rattle.operation.specs.Operation.{max_count, max_pending, op_ok, no_op, zero_cells, temps_ok}
use Rattle.message.specs.Layout.{client_count, max_seq, keys_length}
use Rattle.replica.specs.declared.Replica.{Replica}
use Rattle.replica.specs.declared.Stepped.{Stepped}
use Rattle.replica.specs.Places.{no_values, no_statuses, statuses_ok, unused_statuses, unused_values}
use Rattle.replica.specs.Outcome.{Told, refused, halted, told, is_halt}

-- ---- the state
-- "A fresh book has its number and the keys; the rest is zero, none or clear."
abbrev pub fresh_replica : ℕ → List ℕ → Replica
fresh_replica n keys =
    record {
      number = n;
      keys = keys;
      count = 0;
      current = no_op;
      confirmed = 0;
      held = 0;
      chain = no_values;
      statuses = no_statuses;
      cells = zero_cells;
      halt = 0;
    }

-- "an all-zero book"
abbrev pub zero_replica : Replica
zero_replica = fresh_replica 0 (replicate keys_length 0)

-- ---- "fields in range? 8"
-- no current operation: "no entry in hand"
abbrev pub no_current : Operation → Bool
no_current e = every true (eqb e.count 0 ∷ eqb e.kind 0 ∷ eqb e.cell 0 ∷ eqb e.amount 0 ∷ eqb e.last 0 ∷ [])

-- "Van number … 1 to 8; counts and c 0 to 1,000,000; 0 to 32 places held, none above 1,000,000; halt mark clear or a halt's number"
unfoldable pub numbers_ok : Replica → Bool
numbers_ok r =
    every true
    (leb 1 r.number
    ∷ leb r.number client_count
    ∷ leb r.count max_count
    ∷ leb r.confirmed max_seq
    ∷ leb r.held max_pending
    ∷ leb (r.confirmed + r.held) max_seq
    ∷ (eqb r.halt 0 || is_halt r.halt)
    ∷ [])

-- "statuses 1, 0 or none"; "unused slots zero"; "temperatures from −40 to 85" (document 02, Q-2)
unfoldable pub arrays_ok : Replica → Bool
arrays_ok r =
    every true
    (statuses_ok r.statuses
    ∷ unused_statuses r.confirmed r.held r.statuses
    ∷ unused_values r.confirmed r.held r.chain
    ∷ temps_ok r.cells
    ∷ [])

-- all of it, with "stored entries allowed"
unfoldable pub in_range : Replica → Bool
in_range r = every true (numbers_ok r ∷ (no_current r.current || op_ok r.current) ∷ arrays_ok r ∷ [])

-- ---- checks in order
-- "Every later van call … first: fields in range? 8. … For vans: halt mark clear? 3."
abbrev pub ready_checks : Replica → List (Bool × ℕ)
ready_checks r = (in_range r, 8) ∷ (eqb r.halt 0, 3) ∷ []

-- ---- a call's result: the replica after it, and what it tells
pub record After : Type 0 where
  pub replica : Replica
  pub says : Told

abbrev pub after_of : Stepped → After
after_of s = record { replica = s.replica; says = told s.outcome }

-- "refusals: book … unchanged, only the number comes back"
abbrev pub refuse : Replica → ℕ → After
refuse r n = record { replica = r; says = refused n }

-- "halts: the halt mark becomes that number, the rest of the book … unchanged"
abbrev pub halted_at : Replica → ℕ → Replica
halted_at r n =
    record {
      number = r.number;
      keys = r.keys;
      count = r.count;
      current = r.current;
      confirmed = r.confirmed;
      held = r.held;
      chain = r.chain;
      statuses = r.statuses;
      cells = r.cells;
      halt = n;
    }

abbrev pub halt : Replica → ℕ → After
halt r n = record { replica = halted_at r n; says = halted n }

-- "Numbers below 20 and from 30 are refusals …. 20 to 25 are halts", and 26 (document 02, Q-4)
abbrev pub stop : Replica → ℕ → After
stop r n = cond (is_halt n) (halt r n) (refuse r n)

-- ---- a call's step: the replica after it and what it tells, and the bytes written to the front of the buffer
pub record Step : Type 0 where
  pub after : After
  pub wrote : List ℕ

-- the buffer after a call that wrote these bytes: no byte past them is changed
abbrev pub over : List ℕ → List ℕ → List ℕ
over bytes out = bytes ++ drop (length bytes) out

-- a call that a check stopped: nothing is written
abbrev pub stop_step : Replica → ℕ → Step
stop_step r n = record { after = stop r n; wrote = [] }
