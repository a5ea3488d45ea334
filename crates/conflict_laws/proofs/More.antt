-- "The conflict test compares these new answers, so it will set aside more" (document 02, Q-1): what conflicted by the answers before it conflicts still.
use Prim.Native.Nat.{ℕ, ◌<◌, ◌≤◌}
use mathlib.Core.Path.{◌≡◌, refl, ap}
use mathlib.Core.Bool.{Bool, true, false, cond}
use mathlib.Core.List.{List, map}
use native.Mathlib.Decide.{dec_lt}
use native.Mathlib.Omega.{arith}
use borrow.Author.Tests.{le-leb, lt-leb}
use lib.Dec.{eqb}
use lib.IntN.{pos}
use lib.Signed.{le_z}
use Rattle.operation.specs.declared.Operation.{Operation}
use Rattle.operation.specs.declared.Cells.{Cells}
use Rattle.operation.specs.Operation.{Response, fits, enough, failed, signed, value_response, response}
use Rattle.operation.proofs.Signed.{signed_low, signed_high}
use Rattle.conflict.specs.Conflict.{Turn, own, responses, Interleaving, Conflict}

-- A response as it was before: a failure, 256 and above, answered 0.
abbrev before : Response → Response
before r = cond (le_z r (pos 255)) r (pos 0)

before-signed : (t : ℕ) → t ≤ 255 → before (signed t) ≡ signed t
before-signed t h = go (dec_lt t 128)
  where
    go : Dec (t < 128) → before (signed t) ≡ signed t
    go (yes l) = rw (signed_low t l, le-leb t 255 h)
    go (no n) = rw (signed_high t (omega arith) h)

-- That is document 01's table, with Q-2's kind 6, which cannot fail.
pub table_before : (e : Operation) (v t : ℕ) → v ≤ 255 → t ≤ 255
    → before (response e v t) ≡ cond (eqb e.kind 6) (signed t)
    (pos (cond (eqb e.kind 1) (cond (fits v e.amount) 1 0) (cond (eqb e.kind 2) (cond (enough v e.amount) 1 0) (cond (eqb e.kind 3) v 1))))
unfolding response value_response
table_before e v t h k = part (eqb e.kind 6) (eqb e.kind 1) (fits v e.amount) (eqb e.kind 2) (enough v e.amount) (eqb e.kind 3)
  where
    told : before (pos (failed v)) ≡ pos 0
    told = rw (lt-leb (failed v) 255 (omega arith))

    part : (six add fit less held read : Bool)
        → before (cond six (signed t) (pos (cond add (cond fit 1 (failed v)) (cond less (cond held 1 (failed v)) (cond read v 1)))))
        ≡ cond six (signed t) (pos (cond add (cond fit 1 0) (cond less (cond held 1 0) (cond read v 1))))
    part true add fit less held read = before-signed t k
    part false true true less held read = refl
    part false true false less held read = told
    part false false fit true true read = refl
    part false false fit true false read = told
    part false false fit false held true = rw (le-leb v 255 h)
    part false false fit false held false = refl

-- `Conflict`, over the responses as they were.
abbrev ConflictBefore : Cells → List Operation → List Operation → Type 0
ConflictBefore cells others mine =
    (t : List Turn) × Interleaving others mine t × (map before (responses cells t) ≡ map before (responses cells (map own mine)) → ⊥)

pub aborts_more : (cells : Cells) (others mine : List Operation) → ConflictBefore cells others mine → Conflict cells others mine
unfolding Conflict
aborts_more cells others mine (t, mixed, differ) = (t, mixed, λ e. differ (ap (map before) e))
