-- Moves of equal parts are equal. Assumes nothing.
use mathlib.Core.Path.{◌≡◌}
use mathlib.Core.List.{List}
use Prim.Native.Nat.{ℕ}
use Rattle.trial_said.specs.Word.{Word}
use Rattle.replica.specs.declared.Replica.{Replica}
use Rattle.server.specs.declared.Server.{Server}
use Rattle.trial_core.specs.declared.Lines.{Lines}
use Rattle.trial_core.specs.Trial.{Move}

pub move_same : {r r2 : Replica} {s s2 : Server} {l l2 : Lines} {w w2 : Word} {a a2 b b2 d d2 : List ℕ}
    → r ≡ r2 → s ≡ s2 → l ≡ l2 → w ≡ w2 → a ≡ a2 → b ≡ b2 → d ≡ d2
    → ◌≡◌ {A = Move} (record { replica = r; server = s; lines = l; word = w; log = a; replies = b; invokes = d })
    (record { replica = r2; server = s2; lines = l2; word = w2; log = a2; replies = b2; invokes = d2 })
move_same er es el ew ea eb ed = rw (er, es, el, ew, ea, eb, ed)
