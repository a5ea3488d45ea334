-- What the theorems on runs with a server that follows the rules say of a world that a trial reaches. Assumes nothing.
use Prim.Native.Nat.{ℕ, ◌+◌, ◌<◌, ◌≤◌}
use mathlib.Core.Path.{◌≡◌, refl, ap, subst, ◌∙◌}
use mathlib.Core.List.{List, [], ◌∷◌, ◌++◌, Memᴰ}
use mathlib.Core.Bool.{true, false}
use lib.ListN.{length}
use native.Mathlib.Omega.{arith}
use Rattle.message.specs.Message.{is_invoke, is_reply, is_broadcast}
use Rattle.replica.specs.Replica.{no_current}
use Rattle.client.specs.Receive.{receive_step}
use Rattle.server.specs.Server as Sv
use Rattle.server.specs.Server.{in_range, server_step}
use Rattle.server_laws.proofs.State.{Sizes}
use Rattle.server_laws.proofs.Range.{Ranged, ranged}
use Rattle.progress.specs.HonestRuns.{World, Line, Action, act, run_from, start}
use Rattle.progress.proofs.Calls.{Success}
use Rattle.progress.proofs.NoHalt.{run_inv}
use Rattle.progress.proofs.Reached as Worlds
use Rattle.progress.proofs.OneWay as Ways
use Rattle.progress.proofs.OneWay.{replies, invokes}
use Rattle.progress.proofs.Refusals as Refusals
use Rattle.trial_core.specs.Trial.{trial_keys, keys_to}

pub record Reached (w : World) : Type 0 where
  pub actions : List Action
  pub is : run_from (start trial_keys) actions ≡ w

pub run_append : (w : World) (xs ys : List Action) → run_from w (xs ++ ys) ≡ run_from (run_from w xs) ys
unfolding run_from
run_append w [] ys = refl
run_append w (x ∷ xs) ys = run_append (act w x) xs ys

pub reached-start : Reached (start trial_keys)
unfolding run_from
reached-start = record { actions = []; is = refl }

pub reached_run : (w : World) (xs : List Action) → Reached w → Reached (run_from w xs)
reached_run w xs R =
    record { actions = R.actions ++ xs; is = run_append (start trial_keys) R.actions xs ∙ ap (λ (v : World). run_from v xs) R.is }

pub reached-act : (w : World) (a : Action) → Reached w → Reached (act w a)
unfolding run_from
reached-act w a R = reached_run w (a ∷ []) R

keys_256 : length trial_keys ≡ 256
unfolding keys_to
keys_256 = refl

-- ---- the server
module _ (w : World) (R : Reached w) where
  pub server_ranged : Ranged w.server
  server_ranged = ranged w.server (subst (λ (v : World). in_range v.server ≡ true) R.is (Worlds.server_in_range trial_keys R.actions))

  pub server_sizes : Sizes w.server
  server_sizes = subst (λ (v : World). Sizes v.server) R.is (run_inv trial_keys R.actions).server.sizes

-- ---- client i + 1
module _ (w : World) (R : Reached w) (i : ℕ) (h : i < 8) where
  abbrev n : ℕ
  n = i + 1

  pub one_way : replies (w.down n) + invokes (w.up n) ≤ 1
  one_way =
      subst (λ (v : World). replies (v.down n) + invokes (v.up n) ≤ 1) R.is
      (Ways.one_way trial_keys keys_256 n (omega arith) (omega arith) R.actions)

  pub none_current : no_current (w.replica n).current ≡ true → replies (w.down n) + invokes (w.up n) ≡ 0
  none_current =
      subst (λ (v : World). no_current (v.replica n).current ≡ true → replies (v.down n) + invokes (v.up n) ≡ 0) R.is
      (Ways.none_current trial_keys keys_256 n (omega arith) (omega arith) R.actions)

  pub to_broadcast : (m : List ℕ) → Memᴰ m (w.down n) → is_reply m ≡ false → is_broadcast m ≡ true
  to_broadcast =
      subst (λ (v : World). (m : List ℕ) → Memᴰ m (v.down n) → is_reply m ≡ false → is_broadcast m ≡ true) R.is
      (Ways.to_broadcast trial_keys keys_256 n (omega arith) (omega arith) R.actions)

  pub takes : (m : List ℕ) (d : Line) → w.down n ≡ m ∷ d → Success (receive_step (w.replica n) m 80).after.says
  takes =
      subst (λ (v : World). (m : List ℕ) (d : Line) → v.down n ≡ m ∷ d → Success (receive_step (v.replica n) m 80).after.says) R.is
      (λ m d q. Worlds.takes trial_keys keys_256 n (omega arith) (omega arith) R.actions 80 m d q (omega arith))

  pub commit_passed : (m : List ℕ) (u : Line) → w.up n ≡ m ∷ u → is_invoke m ≡ false → (j : ℕ) × ((server_step w.server n m 2560).says ≡ Sv.broadcast j)
  commit_passed =
      subst (λ (v : World). (m : List ℕ) (u : Line) → v.up n ≡ m ∷ u → is_invoke m ≡ false → (j : ℕ) × ((server_step v.server n m 2560).says ≡ Sv.broadcast j)) R.is
      (λ m u q e. Refusals.commit_passed trial_keys keys_256 n (omega arith) (omega arith) R.actions 2560 m u q e (omega arith))
