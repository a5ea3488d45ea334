-- Internal: what the test on numbers promises. Not to be read for what a conflict is.
use Rattle.std.specs.Prelude.{ℕ, Bool, cond, List, [], ◌∷◌, eqb}
use Rattle.operation.specs.declared.Operation.{Operation}
use Rattle.operation.specs.Operation.{number_at, change_at, value, value_response}

-- Numbers, one for each cell, be they values or temperatures: what they are after an operation, and what it answers by its cell's.
unfoldable pub changed : Operation → List ℕ → List ℕ
changed e l = change_at l e.cell (value e)

unfoldable pub answered : Operation → List ℕ → ℕ
answered e l = value_response e (number_at l e.cell)

-- Those of the operations that pass a test, each by its part.
unfoldable pub parts : (Operation → Bool) → (Operation → Operation) → List Operation → List Operation
parts test part [] = []
parts test part (e ∷ es) = cond (test e) (part e ∷ parts test part es) (parts test part es)

-- The operations on the cell k.
abbrev pub is_on : ℕ → Operation → Bool
is_on k e = eqb e.cell k

abbrev pub on_cell : ℕ → List Operation → List Operation
on_cell k = parts (is_on k) (λ e. e)
