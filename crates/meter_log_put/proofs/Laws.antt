-- What is printed, by what is told. Assumes nothing.
use Prim.Native.Nat.{ℕ, ◌+◌, ◌≤◌}
use mathlib.Core.Path.{◌≡◌}
use mathlib.Core.List.{List}
use lib.ListN.{length}
use Rattle.slices.specs.Bytes.{put}
use Rattle.meter_log_told.specs.declared.LineTold.{LineTold}
use Rattle.meter_log_put.specs.Text.{told_text}

pub told_is :
    (z y : List ℕ) (at q : ℕ) (s t : LineTold) →
    s ≡ t →
    q ≡ at + length (told_text t) →
    y ≡ put z at (told_text t) →
    q ≤ at + 38 →
    (q ≡ at + length (told_text s)) × (y ≡ put z at (told_text s)) × (q ≤ at + 38)
told_is z y at q s t k a b h = rw k (a, b, h)
