-- The line from each of the eight clients: at most one commit, then at most one invoke. Assumes nothing.
use Prim.Native.Nat.{ℕ, ◌≤◌}
use mathlib.Core.Path.{◌≡◌, ap, subst}
use mathlib.Core.List.{List, [], ◌∷◌}
use mathlib.Core.Bool.{true, false}
use lib.ListN.{length}
use native.Mathlib.Omega.{arith}
use Rattle.operation.specs.declared.Operation.{Operation}
use Rattle.message.specs.Message.{is_invoke}
use Rattle.progress.specs.HonestRuns.{World, Line, start, Action, run_from}
use Rattle.progress.proofs.Invariant.{Ghost, Asks, Client}
use Rattle.progress.proofs.Heads.{sent_head}
use Rattle.progress.proofs.NoHalt.{ghost}
use Rattle.progress.proofs.Reached.{client}

asks_last : (g : Ghost) (n : ℕ) (h : Operation) (m : List ℕ) (u : Line) → Asks g n h (m ∷ u) → (is_invoke m ≡ true) × (u ≡ [])
asks_last g n h m u (a, e) = (a.form, e)

asks_short : (g : Ghost) (n : ℕ) (h : Operation) (u : Line) → Asks g n h u → length u ≤ 1
asks_short g n h [] U = omega arith
asks_short g n h (m ∷ u) (a, e) = let z : length u ≡ 0 = ap length e in omega arith

module _ (keys : List ℕ) (l : length keys ≡ 256) (n : ℕ) (low : 1 ≤ n) (high : n ≤ 8) (actions : List Action) where
  abbrev w : World
  w = run_from (start keys) actions

  abbrev g : Ghost
  g = ghost keys actions

  module _ (m : List ℕ) (u : Line) (q : w.up n ≡ m ∷ u) where
    head : Client g w.server n w.server.passed (w.replica n) (m ∷ u) (w.down n)
    head = subst (λ (x : Line). Client g w.server n w.server.passed (w.replica n) x (w.down n)) q (client keys l n low high actions)

    -- what follows another message at the head is at most one invoke
    after : is_invoke m ≡ false → Asks g n (w.replica n).current u
    after e =
        (sent_head g w.server n w.server.passed (w.replica n).current (w.replica n).confirmed m u (w.down n) e head.lines).1.0

    pub invoke-after : is_invoke m ≡ false → (x : List ℕ) (v : Line) → u ≡ x ∷ v → (is_invoke x ≡ true) × (v ≡ [])
    invoke-after e x v z = asks_last g n (w.replica n).current x v (subst (Asks g n (w.replica n).current) z (after e))
