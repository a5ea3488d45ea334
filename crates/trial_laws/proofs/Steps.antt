-- One line of input: the program's step is the run's actions, and gives the same word. Assumes nothing.
use Prim.Native.Nat.{ℕ, ◌+◌, ◌-◌, ◌<◌}
use mathlib.Core.Path.{◌≡◌, refl, sym, subst}
use mathlib.Core.Logic.{⊎_elim}
use mathlib.Core.List.{[]}
use mathlib.Core.Bool.{Bool, true, false, cond}
use lib.Dec.{leb}
use native.Mathlib.Omega.{arith}
use borrow.Author.Tests.{leb-true}
use Rattle.slices.proofs.Laws.{and_yes}
use Rattle.replica.specs.declared.Replica.{Replica}
use Rattle.server.specs.declared.Server.{Server}
use Rattle.progress.specs.HonestRuns as H
use Rattle.progress.specs.HonestRuns.{World, run_from, told_in}
use Rattle.trial_words.specs.Words.{Asked, invoke, deliver, other}
use Rattle.trial_said.specs.Word.{Word, bad, full}
use Rattle.trial_core.specs.Trial as T
use Rattle.trial_core.specs.Trial.{Lent, Move, LineStep, is_client, replica_of, moved, unmoved, invoke_move, deliver_move, command_step, offer_to, again_of, again_trial, again_lent, line_step}
use Rattle.trial_core.specs.declared.Trial.{Trial}
use Rattle.trial_laws.specs.TrialRuns.{some_full, deliver_actions, invoke_actions, line_actions, invoke_word, deliver_word, line_van, line_word, offers, offered, after_line}
use Rattle.trial_ways.proofs.Parts.{bool_cases}
use Rattle.trial_ways.proofs.Reached.{Reached, reached_run}
use Rattle.trial_ways.proofs.Shows.{Shows}
use Rattle.trial_laws.proofs.Again.{Good, again}
use Rattle.trial_laws.proofs.Full.{full_same}
use Rattle.trial_laws.proofs.InvokeMove.{Moved, invoke_move_lem}
use Rattle.trial_laws.proofs.DeliverMove.{deliver_move_lem}

-- the program's state shows a world
abbrev pub TrialShows : Trial → Lent → World → Type 0
TrialShows t b w = Shows t.replicas t.lines b w × (t.server ≡ w.server)

-- a line's result shows the world v, and prints this
abbrev pub Result : LineStep → World → ℕ → Word → Type 0
Result r v van word = TrialShows r.trial r.lent v × ((r.van ≡ van) × (r.word ≡ word))

module _ (t : Trial) (b : Lent) (w : World) (S : TrialShows t b w) (R : Reached w) where
  unmoved_result : (van : ℕ) (word : Word) → Result (unmoved t b van word) (run_from w []) van word
  unfolding unmoved run_from
  unmoved_result van word = (S, (refl, refl))

  moved_result : (i : ℕ) (m : Move) (v : World) (word : Word) → Moved t.replicas i v m → m.word ≡ word → Result (moved t i m) v (i + 1) word
  unfolding moved
  moved_result i m v word M e = (M, (refl, e))

  -- ---- `D van`
  module _ (i : ℕ) (h : i < 8) where
    abbrev n : ℕ
    n = i + 1

    same_replica : w.replica n ≡ replica_of t i
    same_replica = sym (S.0.replica i h)

    abbrev Delivers : LineStep → Type 0
    Delivers r = Result r (run_from w (deliver_actions w n)) n (deliver_word (told_in w (H.deliver n 80)))

    deliver_result : Delivers (moved t i (deliver_move (replica_of t i) t.server t.lines i b))
    deliver_result =
        let G = deliver_move_lem t.replicas t.lines b w S.0 R i h in
        subst (λ (s : Server). Delivers (moved t i (deliver_move (replica_of t i) s t.lines i b))) (sym S.1)
        (subst (λ (r : Replica). Delivers (moved t i (deliver_move r w.server t.lines i b))) same_replica
        (moved_result i (deliver_move (w.replica n) w.server t.lines i b) _ _ G.0 G.1))

    -- ---- `I van kind cell amount`
    module _ (kind cell amount : ℕ) where
      abbrev step : Bool → Replica → Server → LineStep
      step f r s = cond f (unmoved t b n full) (moved t i (invoke_move r s t.lines i kind cell amount b))

      abbrev Invokes : LineStep → Type 0
      Invokes r = Result r (run_from w (invoke_actions w n kind cell amount)) n (invoke_word w n kind cell amount)

      by_full : Invokes (step (some_full w 8) (w.replica n) w.server)
      unfolding invoke_actions invoke_word
      by_full =
          ⊎_elim
          (λ (e : some_full w 8 ≡ true). rw e (unmoved_result n full))
          (λ (e : some_full w 8 ≡ false).
          let G = invoke_move_lem t.replicas t.lines b w S.0 R i h e kind cell amount in
          rw e (moved_result i (invoke_move (w.replica n) w.server t.lines i kind cell amount b) _ _ G.0 G.1))
          (bool_cases (some_full w 8))

      invoke_result : Invokes (step (T.is_full t.lines.next t.server.passed 8) (replica_of t i) t.server)
      invoke_result =
          subst (λ (s : Server). Invokes (step (T.is_full t.lines.next s.passed 8) (replica_of t i) s)) (sym S.1)
          (subst (λ (r : Replica). Invokes (step (T.is_full t.lines.next w.server.passed 8) r w.server)) same_replica
          (subst (λ (f : Bool). Invokes (step f (w.replica n) w.server)) (sym (full_same t.replicas t.lines b w S.0 8 (omega arith))) by_full))

  -- ---- the command
  client_low : (n : ℕ) → is_client n ≡ true → (n - 1 < 8) × (n - 1 + 1 ≡ n)
  client_low n e =
      let y = and_yes (leb 1 n) (leb n 8) e in
      let a = leb-true 1 n y.0 in
      let c = leb-true n 8 y.1 in
      (omega arith, omega arith)

  pub command_result : (a : Asked) → Result (command_step t b a) (run_from w (line_actions w a)) (line_van a) (line_word w a)
  unfolding command_step line_actions line_van line_word
  command_result other = unmoved_result 0 bad
  command_result (deliver n) =
      ⊎_elim
      (λ (e : is_client n ≡ true).
      let y = client_low n e in
      rw e (subst (λ (k : ℕ). Result (moved t (n - 1) (deliver_move (replica_of t (n - 1)) t.server t.lines (n - 1) b)) (run_from w (deliver_actions w k)) k (deliver_word (told_in w (H.deliver k 80)))) y.1
      (deliver_result (n - 1) y.0)))
      (λ (e : is_client n ≡ false). rw e (unmoved_result 0 bad))
      (bool_cases (is_client n))
  command_result (invoke n kind cell amount) =
      ⊎_elim
      (λ (e : is_client n ≡ true).
      let y = client_low n e in
      rw e (subst (λ (k : ℕ).
      Result
      (cond (T.is_full t.lines.next t.server.passed 8) (unmoved t b k full)
      (moved t (n - 1) (invoke_move (replica_of t (n - 1)) t.server t.lines (n - 1) kind cell amount b)))
      (run_from w (invoke_actions w k kind cell amount)) k (invoke_word w k kind cell amount)) y.1
      (invoke_result (n - 1) y.0 kind cell amount)))
      (λ (e : is_client n ≡ false). rw e (unmoved_result 0 bad))
      (bool_cases (is_client n))

-- ---- the line
module _ (t : Trial) (b : Lent) (w : World) (S : TrialShows t b w) (R : Reached w) where
  again_shown : TrialShows (again_trial t (again_of t b)) (again_lent b (again_of t b)) (offered w)
  unfolding again_trial again_lent again_of offered
  again_shown =
      subst (λ (s : Server). Good t.replicas b (run_from w (offers 8)) (offer_to 8 s t.lines b.replies b.invokes)) (sym S.1)
      (again t.replicas t.lines b w S.0 R 8 (omega arith))

  pub line_result : (a : Asked) → Result (line_step t b a) (after_line w a) (line_van a) (line_word (offered w) a)
  unfolding line_step offered after_line
  line_result a = command_result (again_trial t (again_of t b)) (again_lent b (again_of t b)) (offered w) again_shown (reached_run w (offers 8) R) a
