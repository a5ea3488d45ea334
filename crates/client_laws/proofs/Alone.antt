-- The response given is the last one of the own list run alone. Assumes nothing.
use Prim.Native.Nat.{ℕ}
use mathlib.Core.Path.{◌≡◌, refl, ap}
use mathlib.Core.List.{List, [], ◌∷◌, ◌++◌, map}
use Rattle.operation.specs.declared.Operation.{Operation}
use Rattle.operation.specs.declared.Cells.{Cells}
use Rattle.operation.specs.Operation.{Response, after, response_on, run_all}
use Rattle.conflict.specs.Conflict.{own, responses}
use Rattle.replica.specs.declared.Replica.{Replica}
use Rattle.client_reply.specs.Reply.{earlier, last_response}

pub last_alone : (es : List Operation) (e : Operation) (cells : Cells)
    → responses cells (map own (es ++ (e ∷ []))) ≡ responses cells (map own es) ++ (response_on e (run_all es cells) ∷ [])
unfolding responses run_all
last_alone [] e cells = refl
last_alone (d ∷ es) e cells = ap (λ (x : List Response). response_on d cells ∷ x) (last_alone es e (after d cells))

-- of a reply: the own pending operations with the current one at their end
pub reply_alone : (r : Replica) (m : List ℕ)
    → responses r.cells (map own ((earlier r m).own ++ (r.current ∷ [])))
    ≡ responses r.cells (map own (earlier r m).own) ++ (last_response r m ∷ [])
unfolding last_response
reply_alone r m = last_alone (earlier r m).own r.current r.cells
