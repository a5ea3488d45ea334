-- Laws of the bytes held, and of the last line. Assumes nothing.
use Prim.Native.Nat.{ℕ, ◌+◌, ◌<◌}
use mathlib.Core.Path.{◌≡◌, refl, ap, ◌∙◌}
use mathlib.Core.List.{List, [], ◌∷◌, ◌++◌}
use native.Mathlib.Omega.{arith}
use native.Mathlib.Numerals.{add-one}
use borrow.Author.Tests.{le-leb, lt-leb}
use lib.ListN.{length, take, drop, set}
use lib.Seq.{length-take-le, take-suc-set}
use Rattle.trial_bytes.specs.Held.{held_of, last_line, Ends, Keeps}

-- bytes that leave room are held as they are
pub keeps_all : (s : List ℕ) (n : ℕ) → n < length s → Keeps s s 0 n n
unfolding held_of
keeps_all s n h =
    let l : length (take n s) ≡ n = length-take-le n s (omega arith) in
    let e = lt-leb (length s) (length (take n s)) (omega (arith, l)) in
    record { held = rw e; few = omega arith; room = h }

-- bytes that leave none are held as one
pub keeps_one : (s : List ℕ) (n : ℕ) → n ≡ length s → 1 < length s → Keeps s (set s 0 0) 0 n 1
unfolding held_of
keeps_one s n h g =
    let l : length (take n s) ≡ n = length-take-le n s (omega arith) in
    let e = le-leb (length s) (length (take n s)) (omega (arith, l)) in
    record { held = rw e (take-suc-set s 0 0 (omega arith)); few = omega arith; room = g }

-- held as bytes that were moved to the front
pub keeps_moved : (s m x : List ℕ) (from n r : ℕ) → length m ≡ length s → take n m ≡ take n (drop from s) → Keeps m x 0 n r → Keeps s x from n r
keeps_moved s m x from n r e f k =
    record {
      held = k.held ∙ ap (λ (z : ℕ). held_of z (take n m)) e ∙ ap (held_of (length s)) f;
      few = k.few;
      room = omega (arith, e, k.room);
    }

pub ends_none : (s : List ℕ) (n : ℕ) → n ≡ 0 → Ends s s n 0
unfolding last_line
ends_none s n e = record { line = rw e; few = omega arith; within = omega arith }

pub last_line_lem : (s : List ℕ) → 0 < length s → last_line s ≡ s ++ (10 ∷ [])
unfolding last_line
last_line_lem [] h = absurd (omega (arith, h))
last_line_lem (c ∷ s) h = refl

pub ends_some : (s : List ℕ) (n : ℕ) → 0 < n → n < length s → Ends s (set s n 10) n (n + 1)
ends_some s n g h =
    let l : length (take n s) ≡ n = length-take-le n s (omega arith) in
    let e : last_line (take n s) ≡ take n s ++ (10 ∷ []) = last_line_lem (take n s) (omega (arith, l)) in
    record { line = rw (add-one n, e) (take-suc-set s n 10 h); few = omega arith; within = omega arith }
