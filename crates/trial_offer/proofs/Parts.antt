-- Laws of parts of a buffer that are lent to a call. Assumes nothing.
use Prim.Native.Nat.{ℕ, ◌+◌, ◌<◌, ◌≤◌}
use mathlib.Core.Path.{◌≡◌, sym, ap, ◌∙◌}
use mathlib.Core.List.{List, ◌++◌, append_assoc}
use lib.ListN.{length, get_or, take, drop, length-append, length-take, length-drop, take-append-drop, get_or-append}
use lib.Seq.{length-take-le, drop-append-le, drop-drop, get_or-append-add}
use native.Mathlib.Omega.{arith}
use Rattle.slices.specs.Bytes.{put}
use Rattle.replica.specs.Replica.{over}

-- what is written to the front of a buffer fits where the buffer keeps its length
pub over_fits : (w out : List ℕ) → length (over w out) ≡ length out → length w ≤ length out
over_fits w out e = omega (arith, simp (length-append, length-drop) at e)

-- bytes written to the front of a part of k bytes
pub part_over : (s w y : List ℕ) (at k : ℕ) → at + k ≤ length s → length w ≤ k → y ≡ over w (take k (drop at s))
    → take at s ++ (y ++ drop k (drop at s)) ≡ put s at w
part_over s w y at k h l q =
    let r : List ℕ = drop at s in
    let t : length w ≤ length (take k r) = omega (arith, length-take k r, length-drop at s) in
    let d : drop (length w) (take k r) ++ drop k r ≡ drop (length w) r = sym (drop-append-le (length w) (take k r) (drop k r) t) ∙ ap (λ (x : List ℕ). drop (length w) x) (take-append-drop k r) in
    let f : drop (length w) r ≡ drop (at + length w) s = drop-drop (length w) at s in
    let g : y ++ drop k r ≡ w ++ drop (at + length w) s = rw (q, append_assoc w (drop (length w) (take k r)) (drop k r), d, f) in
    rw (g, append_assoc (take at s) w (drop (at + length w) s))

pub part_length : (s : List ℕ) (at k : ℕ) → at + k ≤ length s → length (take k (drop at s)) ≡ k
part_length s at k h = length-take-le k (drop at s) (omega (arith, length-drop at s))

-- a byte of what was put
pub put_at : (s t : List ℕ) (at j : ℕ) → at ≤ length s → j < length t → get_or (put s at t) (at + j) 0 ≡ get_or t j 0
put_at s t at j h l =
    let e : length (take at s) ≡ at = length-take-le at s h in
    let x : List ℕ = t ++ drop (at + length t) s in
    let f : get_or (take at s ++ x) (length (take at s) + j) 0 ≡ get_or x j 0 = get_or-append-add (take at s) x j 0 in
    let g : get_or (take at s ++ x) (at + j) 0 ≡ get_or x j 0 = rw e at f in
    rw (append_assoc (take at s) t (drop (at + length t) s)) (g ∙ get_or-append t (drop (at + length t) s) 0 j l)
