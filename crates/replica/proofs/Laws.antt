-- Laws of stops and of check 8. Assumes nothing.
use Prim.Native.Nat.{ℕ, ◌+◌, ◌<◌, ◌≤◌}
use mathlib.Core.Path.{◌≡◌, refl}
use mathlib.Core.List.{[], ◌∷◌}
use mathlib.Core.Bool.{true, ◌||◌, or-true}
use lib.Dec.{leb, eqb}
use lib.ListN.{length}
use borrow.Author.Tests.{leb-true, le-leb, lt-leb}
use Rattle.checks.proofs.Laws.{and_yes, cond_cases, every_yes}
use Rattle.operation.specs.Operation.{op_ok, temps_ok}
use Rattle.replica.specs.Outcome.{Told, refused, halted, is_halt}
use Rattle.replica.specs.Places.{statuses_ok, unused_statuses, unused_values}
use Rattle.replica.specs.Replica.{no_current, numbers_ok, arrays_ok, in_range, After, refuse, halted_at, halt, stop}
use Rattle.replica.specs.declared.Replica.{Replica}

-- ---- numbers
pub halt_bounds : (n : ℕ) → is_halt n ≡ true → (20 ≤ n) × (n ≤ 26)
halt_bounds n e = let h = and_yes (leb 20 n) (leb n 26) e in (leb-true _ _ h.0, leb-true _ _ h.1)

-- ---- check 8
-- what a replica in range has
pub record Ranged (r : Replica) : Type 0 where
  pub low : 1 ≤ r.number
  pub high : r.number ≤ 8
  pub count : r.count ≤ 1000000
  pub confirmed : r.confirmed ≤ 1000000
  pub held : r.held ≤ 32
  pub last : r.confirmed + r.held ≤ 1000000
  pub mark : (eqb r.halt 0 || is_halt r.halt) ≡ true
  pub current : (no_current r.current || op_ok r.current) ≡ true
  pub statuses : statuses_ok r.statuses ≡ true
  pub unused : unused_statuses r.confirmed r.held r.statuses ≡ true
  pub rest : unused_values r.confirmed r.held r.chain ≡ true
  pub temps : temps_ok r.cells ≡ true

pub ranged : (r : Replica) → in_range r ≡ true → Ranged r
unfolding in_range numbers_ok arrays_ok
ranged r e =
    let y = (every_yes true (numbers_ok r ∷ (no_current r.current || op_ok r.current) ∷ arrays_ok r ∷ []) e).1 in
    let n =
    (every_yes true
    (leb 1 r.number
    ∷ leb r.number 8
    ∷ leb r.count 1000000
    ∷ leb r.confirmed 1000000
    ∷ leb r.held 32
    ∷ leb (r.confirmed + r.held) 1000000
    ∷ (eqb r.halt 0 || is_halt r.halt)
    ∷ [])
    y.0
    ).1
    in
    let a =
    (every_yes true
    (statuses_ok r.statuses ∷ unused_statuses r.confirmed r.held r.statuses ∷ unused_values r.confirmed r.held r.chain ∷ temps_ok r.cells ∷ [])
    y.1.1.0
    ).1
    in
    record {
      low = leb-true _ _ n.0;
      high = leb-true _ _ n.1.0;
      count = leb-true _ _ n.1.1.0;
      confirmed = leb-true _ _ n.1.1.1.0;
      held = leb-true _ _ n.1.1.1.1.0;
      last = leb-true _ _ n.1.1.1.1.1.0;
      mark = n.1.1.1.1.1.1.0;
      current = y.1.0;
      statuses = a.0;
      unused = a.1.0;
      rest = a.1.1.0;
      temps = a.1.1.1.0;
    }

pub in_range_lem : (r : Replica) → Ranged r → in_range r ≡ true
unfolding in_range numbers_ok arrays_ok
in_range_lem r g =
    rw (
      le-leb _ _ g.low,
      le-leb _ _ g.high,
      le-leb _ _ g.count,
      le-leb _ _ g.confirmed,
      le-leb _ _ g.held,
      le-leb _ _ g.last,
      g.mark,
      g.current,
      g.statuses,
      g.unused,
      g.rest,
      g.temps,
    )

-- how long the arrays are
pub record Sized (r : Replica) : Type 0 where
  pub keys : length r.keys ≡ 256
  pub chain : length r.chain ≡ 1056
  pub statuses : length r.statuses ≡ 32
  pub cells : (length r.cells.values ≡ 16) × (length r.cells.temps ≡ 16)

-- check 8 and the lengths, which every call keeps
pub record Sound (r : Replica) : Type 0 where
  pub range : in_range r ≡ true
  pub sized : Sized r

-- ---- a stop
module _ (r : Replica) (n : ℕ) where
  -- "Numbers below 20 … are refusals"
  pub stop_low : n < 20 → stop r n ≡ refuse r n
  stop_low h = rw (lt-leb _ _ h)

  -- nothing changes but the halt mark, which a halt makes the number
  pub stop_cases : (P : Replica → Type 0) → P r → (is_halt n ≡ true → P (halted_at r n)) → P (stop r n).replica
  stop_cases P a b = cond_cases (λ (x : After). P x.replica) (is_halt n) (halt r n) (refuse r n) b (λ e. a)

  -- and the number is told, as a halt or as a refusal
  pub stop_tells : (P : Told → Type 0) → P (halted n) → P (refused n) → P (stop r n).says
  stop_tells P h f = cond_cases (λ (x : After). P x.says) (is_halt n) (halt r n) (refuse r n) (λ e. h) (λ e. f)

  pub stop_rest : (stop r n).replica ≡ halted_at r (stop r n).replica.halt
  stop_rest = stop_cases (λ (s : Replica). s ≡ halted_at r s.halt) refl (λ h. refl)

  pub stop_in_range : in_range r ≡ true → in_range (stop r n).replica ≡ true
  stop_in_range e =
      let g = ranged r e in
      stop_cases (λ (s : Replica). in_range s ≡ true) e
      (λ h.
      in_range_lem (halted_at r n) (record {
        low = g.low;
        high = g.high;
        count = g.count;
        confirmed = g.confirmed;
        held = g.held;
        last = g.last;
        mark = rw h (or-true (eqb n 0));
        current = g.current;
        statuses = g.statuses;
        unused = g.unused;
        rest = g.rest;
        temps = g.temps;
      }))

  pub stop_sized : Sized r → Sized (stop r n).replica
  stop_sized s =
      stop_cases Sized s (λ h. record { keys = s.keys; chain = s.chain; statuses = s.statuses; cells = s.cells })

  pub stop_sound : Sound r → Sound (stop r n).replica
  stop_sound s = record { range = stop_in_range s.range; sized = stop_sized s.sized }
