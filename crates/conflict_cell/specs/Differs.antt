-- Internal: a conflict step by step, as the search meets it. Not to be read for what a conflict is.
use Rattle.std.specs.Prelude.{◌≡◌, List, ◌∷◌}
use Rattle.operation.specs.declared.Operation.{Operation}

-- States are of a type S and responses of a type R. From a state v, with the state u of the own list run alone, some interleaving of the rest makes an own response differ.
pub data Differs {S R : Type 0} (val : Operation → S → S) (res : Operation → S → R) : S → S → List Operation → List Operation → Type 0 where
  here : {v u : S} {w : Operation} {os ws : List Operation} → (res w v ≡ res w u → ⊥) → Differs val res v u os (w ∷ ws)
  step : {v u : S} {w : Operation} {os ws : List Operation} → Differs val res (val w v) (val w u) os ws → Differs val res v u os (w ∷ ws)
  skip : {v u : S} {o : Operation} {os ws : List Operation} → Differs val res v u os ws → Differs val res v u (o ∷ os) ws
  runs : {v u : S} {o : Operation} {os ws : List Operation} → Differs val res (val o v) u os ws → Differs val res v u (o ∷ os) ws
