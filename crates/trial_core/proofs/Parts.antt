-- A part of a list, written. Assumes nothing.
use Prim.Native.Nat.{ℕ, ◌+◌}
use mathlib.Core.Path.{◌≡◌}
use mathlib.Core.List.{List, ◌++◌, append_assoc}
use lib.ListN.{length, take, drop}
use lib.Seq.{drop-drop}
use Rattle.slices.specs.Bytes.{put}

-- the k elements from `at` on are now those of y
pub part_put : (s y : List ℕ) (at k : ℕ) → length y ≡ k → take at s ++ (y ++ drop k (drop at s)) ≡ put s at y
part_put s y at k l =
    let d : drop k (drop at s) ≡ drop (at + length y) s = rw (← l) (drop-drop (length y) at s) in
    rw (d, append_assoc (take at s) y (drop (at + length y) s))
