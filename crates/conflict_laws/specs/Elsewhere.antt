-- What the law of others on other cells asks of two lists of operations.
use Rattle.std.specs.Prelude.{◌≡◌}
use mathlib.Core.List.{List, Memᴰ}
use Rattle.operation.specs.declared.Operation.{Operation}

-- No operation of the others is on the cell of an own one.
unfoldable pub Elsewhere : List Operation → List Operation → Type 0
Elsewhere others mine = (o w : Operation) → Memᴰ o others → Memᴰ w mine → o.cell ≡ w.cell → ⊥
