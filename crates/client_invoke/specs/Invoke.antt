-- Invoking an operation. Document 01, "What a van does" (making an entry) and "The questions, in order".
use Rattle.std.specs.Prelude.{ℕ, ◌+◌, List, [], ◌∷◌, ◌++◌, Bool, cond, ltb, leb, eqb}
use Rattle.operation.specs.declared.Operation.{Operation}
use Rattle.operation.specs.Operation.{max_count, allowed}
use Rattle.message.specs.Layout.{invoke_length}
use Rattle.message.specs.Message.{invoke_bytes}
use Rattle.verify.specs.Verify.{invoke_tag}
use Rattle.replica.specs.declared.Replica.{Replica}
use Rattle.replica.specs.Outcome.{invoked}
use Rattle.checks.specs.Checks.{first_no}
use Rattle.replica.specs.Replica.{Step, stop_step, no_current, ready_checks}

-- after 8 and 3: "no entry in hand? 4. Kind, cell, amount allowed? 5." ("Making takes the last byte too", document 02, Q-2) "Own count below 1,000,000? 6. 43 bytes lent? 7."
abbrev pub invoke_checks : Replica → ℕ → ℕ → ℕ → ℕ → ℕ → List (Bool × ℕ)
invoke_checks r kind cell amount last room =
    ready_checks r ++ ((no_current r.current, 4) ∷ (allowed kind cell amount last, 5) ∷ (ltb r.count max_count, 6) ∷ (leb invoke_length room, 7) ∷ [])

unfoldable pub invoke_no : Replica → ℕ → ℕ → ℕ → ℕ → ℕ → ℕ
invoke_no r kind cell amount last room = first_no 0 (invoke_checks r kind cell amount last room)

-- "Own counts rise by one from 1."
abbrev pub new_op : Replica → ℕ → ℕ → ℕ → ℕ → Operation
new_op r kind cell amount last = record { count = r.count + 1; kind = kind; cell = cell; amount = amount; last = last }

-- "Making an entry raises the own count, puts the entry in hand …"
abbrev pub invoked_replica : Replica → Operation → Replica
invoked_replica r e =
    record {
      number = r.number;
      keys = r.keys;
      count = e.count;
      current = e;
      confirmed = r.confirmed;
      held = r.held;
      chain = r.chain;
      statuses = r.statuses;
      cells = r.cells;
      halt = r.halt;
    }

-- "… and writes `IN`."
unfoldable pub invoke_message : Replica → Operation → List ℕ
invoke_message r e = invoke_bytes (record { op = e; author = r.number; tag = invoke_tag r.keys e r.number })

unfoldable pub invoke_step : Replica → ℕ → ℕ → ℕ → ℕ → ℕ → Step
invoke_step r kind cell amount last room =
    cond (eqb (invoke_no r kind cell amount last room) 0)
    (record {
      after = record { replica = invoked_replica r (new_op r kind cell amount last); says = invoked (r.count + 1) };
      wrote = invoke_message r (new_op r kind cell amount last);
    })
    (stop_step r (invoke_no r kind cell amount last room))
