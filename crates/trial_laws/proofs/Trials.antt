-- Whole trials: document 01, "Cases". Assumes nothing.
use Prim.Native.Nat.{ℕ, zero, suc, ◌+◌, ◌<◌, ◌≤◌}
use mathlib.Core.Path.{◌≡◌, refl, sym, ap, ◌∙◌}
use mathlib.Core.Logic.{⊎_elim}
use mathlib.Core.List.{List, [], ◌∷◌, ◌++◌}
use mathlib.Core.Bool.{false, true≢false}
use lib.ListN.{length, get_or, length-append, length-replicate, get_or-replicate, get_or-append}
use lib.Seq.{get_or_at}
use native.Mathlib.Omega.{arith}
use native.Mathlib.Numerals.{add-one}
use native.Mathlib.Nat.{eq-or-lt_of_le, le_of_suc-le-suc}
use Rattle.replica.specs.Replica.{zero_replica}
use Rattle.client_open.specs.Open.{open_step}
use Rattle.progress.specs.HonestRuns.{World, start, run_from}
use Rattle.trial_words.specs.Words.{Asked}
use Rattle.trial_core.specs.Trial.{Lent, line_step, trial_keys, replicas_to, start_trial, start_lent}
use Rattle.trial_core.specs.declared.Trial.{Trial}
use Rattle.trial_laws.specs.TrialRuns.{line_actions, offers, offered, after_line, trial_world, trial_actions, trial_words, printed, TrialRun, TrialHonest}
use Rattle.trial_ways.proofs.Ring.{log_from}
use Rattle.trial_ways.proofs.Ways.{none}
use Rattle.trial_ways.proofs.Reached.{Reached, run_append, reached-start, reached_run}
use Rattle.trial_ways.proofs.Shows.{ClientAt, Sizes, trues}
use Rattle.trial_laws.proofs.Steps.{TrialShows, line_result}

-- ---- the start
replicas_length : (n : ℕ) → length (replicas_to n) ≡ n
unfolding replicas_to
replicas_length zero = refl
replicas_length (suc n) = length-append (replicas_to n) ((open_step (suc n) trial_keys).replica ∷ []) ∙ (let z = replicas_length n in omega arith)

replicas_get : (n i : ℕ) → i < n → get_or (replicas_to n) i zero_replica ≡ (open_step (suc i) trial_keys).replica
unfolding replicas_to
replicas_get zero i h = absurd (omega arith)
replicas_get (suc n) i h =
    let l = replicas_length n in
    let x = (open_step (suc n) trial_keys).replica in
    ⊎_elim
    (λ (q : i ≡ n). get_or_at (replicas_to n) x [] zero_replica i (l ∙ sym q) ∙ ap (λ (k : ℕ). (open_step (suc k) trial_keys).replica) (sym q))
    (λ (q : i < n). get_or-append (replicas_to n) (x ∷ []) zero_replica i (omega arith) ∙ replicas_get n i q)
    (eq-or-lt_of_le (le_of_suc-le-suc h))

start_sizes : Sizes start_trial.replicas start_trial.lines start_lent
unfolding start_trial start_lent
start_sizes =
    record {
      replicas = replicas_length 8;
      next = refl;
      before = refl;
      lengths = refl;
      refused = refl;
      log = length-replicate {A = ℕ} 40960 0;
      replies = length-replicate {A = ℕ} 10520 0;
      invokes = length-replicate {A = ℕ} 344 0;
    }

start_client : (b : Lent) (i : ℕ) → i < 8 → ClientAt start_trial.lines b (start trial_keys) i
unfolding start_trial start log_from
start_client b i h =
    rw (get_or-replicate {A = ℕ} 8 i 0 0 h, get_or-replicate 8 i false false h)
    (record { way = none 0 refl refl refl; quiet = λ j g k. absurd (omega arith); waits = refl; asks = λ e. absurd (true≢false (sym e)) })

start-replica : (i : ℕ) → i < 8 → get_or start_trial.replicas i zero_replica ≡ (start trial_keys).replica (i + 1)
unfolding start_trial start
start-replica i h = replicas_get 8 i h ∙ ap (λ (k : ℕ). (open_step k trial_keys).replica) (sym (add-one i))

start_bound : (i : ℕ) → i < 8 → (start trial_keys).server.placed + trues start_trial.lines.refused ≤ get_or start_trial.lines.next i 0 + 295
unfolding start start_trial trues
start_bound i h = omega arith

start_shown : TrialShows start_trial start_lent (start trial_keys)
unfolding start_trial start
start_shown = (record { sizes = start_sizes; replica = start-replica; client = start_client start_lent; bound = start_bound }, refl)

-- ---- line by line
pub reached-line : (w : World) (a : Asked) → Reached w → Reached (after_line w a)
unfolding after_line offered
reached-line w a R = reached_run (offered w) (line_actions (offered w) a) (reached_run w (offers 8) R)

printed_same : (lines : List Asked) (t : Trial) (b : Lent) (w : World) → TrialShows t b w → Reached w → printed t b lines ≡ trial_words w lines
unfolding printed trial_words
printed_same [] t b w S R = refl
printed_same (a ∷ more) t b w S R =
    let r = line_step t b a in
    let L = line_result t b w S R a in
    let m = printed_same more r.trial r.lent (after_line w a) L.0 (reached-line w a R) in
    λ i. (L.1.0 i, L.1.1 i) ∷ m i

pub trial_honest : TrialHonest
unfolding TrialHonest
trial_honest lines = printed_same lines start_trial start_lent (start trial_keys) start_shown reached-start

run_same : (lines : List Asked) (w : World) → trial_world w lines ≡ run_from w (trial_actions w lines)
unfolding trial_world trial_actions run_from after_line offered
run_same [] w = refl
run_same (a ∷ more) w =
    let x = line_actions (offered w) a in
    let y = trial_actions (after_line w a) more in
    run_same more (after_line w a) ∙ sym (run_append w (offers 8) (x ++ y) ∙ run_append (offered w) x y)

pub trial_run : TrialRun
unfolding TrialRun
trial_run lines = run_same lines (start trial_keys)
