-- Opening a client. Document 01, "The questions, in order".
use Rattle.std.specs.Prelude.{ℕ, List, [], ◌∷◌, cond, ◌&&◌, length, leb, eqb}
use Rattle.message.specs.Layout.{client_count, keys_length}
use Rattle.replica.specs.Outcome.{opened}
use Rattle.checks.specs.Checks.{first_no}
use Rattle.replica.specs.Replica.{After, refuse, fresh_replica, zero_replica}

-- "van number 1 to 8? 1. Exactly 256 key bytes? 2. A refused opening gives an all-zero book."
unfoldable pub open_no : ℕ → List ℕ → ℕ
open_no n keys = first_no 0 ((leb 1 n && leb n client_count, 1) ∷ (eqb (length keys) keys_length, 2) ∷ [])

unfoldable pub open_step : ℕ → List ℕ → After
open_step n keys =
    cond (eqb (open_no n keys) 0)
    (record { replica = fresh_replica n keys; says = opened })
    (refuse zero_replica (open_no n keys))
