-- Broadcasts are put on the line to a client, and into the log. Assumes nothing.
use Prim.Native.Nat.{ℕ, ◌+◌, ◌*◌, ◌<◌, ◌≤◌}
use mathlib.Core.Path.{◌≡◌, ap, subst, ◌∙◌}
use mathlib.Core.Logic.{⊎_elim}
use mathlib.Core.List.{List, ◌++◌}
use mathlib.Core.Bool.{Bool}
use lib.ListN.{length}
use native.Mathlib.Omega.{arith}
use Rattle.message.specs.Message.{is_reply}
use Rattle.client_laws.proofs.Chain.{le-or-lt}
use Rattle.progress.specs.HonestRuns.{Line, pieces}
use Rattle.trial_core.specs.Trial.{logged_broadcast, logged}
use Rattle.trial_ways.proofs.Ring.{log_from, logged-kept, new_pieces}
use Rattle.trial_ways.proofs.Ways.{Way, Quiet, way_log, way_more}
use Rattle.trial_ways.proofs.Shows.{Client}

module _ (log bytes : List ℕ) (passed k : ℕ) (z : length log ≡ 40960) (few : k ≤ 32) (long : length bytes ≡ k * 80) where
  abbrev new : List ℕ
  new = logged log passed k bytes

  pub new_line : log_from new passed k ≡ pieces k bytes
  new_line = new_pieces log bytes passed k z (omega arith) (omega arith)

  -- a client that is at most 295 behind
  module _ (next before len : ℕ) (reply : List ℕ) (refused : Bool) (invoke : List ℕ) (u d : Line) (near : passed + k ≤ next + 295) where
    kept : (j : ℕ) → next ≤ j → j < passed → logged_broadcast new j ≡ logged_broadcast log j
    kept j g h = logged-kept log bytes z passed k j (omega arith) h (omega arith)

    still_quiet : Quiet new passed (passed + k) → Quiet log next passed → Quiet new next (passed + k)
    still_quiet N Q j g h =
        ⊎_elim
        (λ (x : passed ≤ j). N j x h)
        (λ (x : j < passed). ap is_reply (kept j g x) ∙ Q j g x)
        (le-or-lt passed j)

    pub passed_client : Quiet new passed (passed + k) → Client log passed next before len reply refused invoke u d
        → Client new (passed + k) next before len reply refused invoke u (d ++ pieces k bytes)
    passed_client N C =
        record {
          way =
              subst (λ (x : Line). Way new (passed + k) next before len reply (d ++ x)) new_line
              (way_more new passed next before len reply d k (way_log log passed next before len reply d new kept C.way));
          quiet = still_quiet N C.quiet;
          waits = C.waits;
          asks = C.asks;
        }
