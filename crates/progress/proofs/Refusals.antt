-- Which refusals there are in a run with a server that follows the rules. Assumes nothing.
use Prim.Native.Nat.{ℕ, ◌+◌, ◌*◌, ◌<◌, ◌≤◌}
use mathlib.Core.Path.{◌≡◌, refl, subst}
use mathlib.Core.Logic.{◌⊎◌, inl, inr}
use mathlib.Core.List.{List, ◌∷◌}
use mathlib.Core.Bool.{true, false}
use lib.ListN.{length}
use native.Mathlib.Omega.{arith}
use borrow.Author.Tests.{eq-eqb}
use Rattle.message.specs.Message.{is_invoke, commit_of}
use Rattle.replica.specs.declared.Replica.{Replica}
use Rattle.replica.specs.Outcome.{refused}
use Rattle.client_invoke.specs.Invoke.{invoke_checks, invoke_no, invoke_step}
use Rattle.client_reply_check.specs.ReplyChecks.{reply_no}
use Rattle.client_reply.specs.Reply.{reply_success, reply_step}
use Rattle.client.specs.Receive.{receive_step}
use Rattle.server.specs.declared.Server.{Server}
use Rattle.server.specs.Server as Sv
use Rattle.server.specs.Server.{server_no, server_step}
use Rattle.server_laws.proofs.State.{due_32}
use Rattle.server_laws.proofs.Checks.{refusal, invoke_either, commit_done}
use Rattle.progress.specs.HonestRuns.{World, Line, start, Action, run_from}
use Rattle.progress.proofs.Invariant.{Ghost, Lines, Client}
use Rattle.progress.proofs.Lines.{reply_none}
use Rattle.progress.proofs.Calls.{Success, first_among, step_refusal}
use Rattle.progress.proofs.Confirming.{broadcast_success}
use Rattle.progress.proofs.Replying.{only-room, done_success}
use Rattle.progress.proofs.HeadChecks.{invoke_no_lem, commit_no}
use Rattle.progress.proofs.NoHalt.{ghost, run_inv}
use Rattle.progress.proofs.Reached.{server_in_range, client}

-- ---- a client as the invariant has it
module _ (g : Ghost) (sv : Server) (n b : ℕ) (r : Replica) (u : Line) where
  invoke_among : (d : Line) → Client g sv n b r u d → (kind cell amount last room : ℕ) (P : ℕ → Type 0) → P 0 → P 4 → P 5 → P 6 → P 7
      → P (invoke_no r kind cell amount last room)
  unfolding invoke_no
  invoke_among d C kind cell amount last room P z a e c q =
      first_among P 0 (invoke_checks r kind cell amount last room) z
      (inl C.sound.range, (inl (eq-eqb _ _ C.clear), (inr a, (inr e, (inr c, (inr q, tt))))))

  module _ (m : List ℕ) (d : Line) (C : Client g sv n b r u (m ∷ d)) (room k : ℕ) where
    abbrev Refused : Type 0
    Refused = (receive_step r m room).after.says ≡ refused k

    by_lines : Lines g sv n b r.current r.confirmed u (m ∷ d) → Refused → k ≡ 7
    unfolding receive_step reply_step
    by_lines (inl (U, inl (R, D))) h = absurd (reply_none g sv n r.confirmed m R)
    by_lines (inl (U, inr (P, D))) h = absurd (subst Success (rw P.other at h) (broadcast_success g sv n b r u d m C P))
    by_lines (inr (U, inl (R, D))) h =
        step_refusal r (reply_success r m) (reply_no r m room) k (λ x. x ≡ 7) (done_success r m)
        (only-room g sv n b r u d m C R (λ x. (x ≡ 0) ⊎ (x ≡ 7)) room (inl refl) (inr (inr refl)))
        (rw R.form at h)
    by_lines (inr (U, inr (P, D))) h = absurd (subst Success (rw P.other at h) (broadcast_success g sv n b r u d m C P))

-- ---- in every world of a run
module _ (keys : List ℕ) (l : length keys ≡ 256) (n : ℕ) (low : 1 ≤ n) (high : n ≤ 8) (actions : List Action) where
  abbrev w : World
  w = run_from (start keys) actions

  abbrev g : Ghost
  g = ghost keys actions

  this : Client g w.server n w.server.passed (w.replica n) (w.up n) (w.down n)
  this = client keys l n low high actions

  -- ---- the server
  module _ (room : ℕ) (m : List ℕ) (u : Line) (q : w.up n ≡ m ∷ u) where
    head : Client g w.server n w.server.passed (w.replica n) (m ∷ u) (w.down n)
    head = subst (λ (x : Line). Client g w.server n w.server.passed (w.replica n) x (w.down n)) q this

    commit_among : is_invoke m ≡ false → (P : ℕ → Type 0) → P 0 → (Sv.due_count (Sv.stored_server w.server (commit_of m)) * 80 ≤ room) ⊎ P 7
        → P (server_no w.server n m room)
    commit_among e =
        commit_no g w.server (server_in_range keys actions) n w.server.passed low high (w.replica n) m u (w.down n) head e room

  -- a commit is refused only for want of room, and 2560 bytes are room enough
  pub commit_refused : (room k : ℕ) (m : List ℕ) (u : Line) → w.up n ≡ m ∷ u → is_invoke m ≡ false → (server_step w.server n m room).says ≡ Sv.refused k → k ≡ 7
  commit_refused room k m u q e h =
      refusal w.server n m room k (λ x. x ≡ 7) h (commit_among room m u q e (λ x. (x ≡ 0) ⊎ (x ≡ 7)) (inl refl) (inr (inr refl)))

  pub commit_passed : (room : ℕ) (m : List ℕ) (u : Line) → w.up n ≡ m ∷ u → is_invoke m ≡ false → 2560 ≤ room
      → (j : ℕ) × ((server_step w.server n m room).says ≡ Sv.broadcast j)
  commit_passed room m u q e h =
      let x = due_32 w.server (commit_of m) (run_inv keys actions).server.sizes.statuses in
      let z = commit_among room m u q e (λ y. y < 1) (omega arith) (inl (omega arith)) in
      (Sv.due_count (Sv.stored_server w.server (commit_of m)), commit_done w.server n m room e (omega arith))

  -- an invoke is placed, or refused as too much waits, as the sequence numbers are used up, or for want of room
  pub invoke-refused : (room k : ℕ) (m : List ℕ) (u : Line) → w.up n ≡ m ∷ u → is_invoke m ≡ true → (server_step w.server n m room).says ≡ Sv.refused k
      → (k ≡ 7) ⊎ ((k ≡ 33) ⊎ (k ≡ 34))
  invoke-refused room k m u q e h =
      refusal w.server n m room k (λ x. (x ≡ 7) ⊎ ((x ≡ 33) ⊎ (x ≡ 34))) h
      (invoke_no_lem g w.server (server_in_range keys actions) n w.server.passed low high (w.replica n) m u (w.down n) (head room m u q) e room
      (λ x. (x ≡ 0) ⊎ ((x ≡ 7) ⊎ ((x ≡ 33) ⊎ (x ≡ 34)))) (inl refl) (inr (inr (inl refl))) (inr (inr (inr refl))) (inr (inl refl)))

  pub invoke_said : (room : ℕ) (m : List ℕ) (u : Line) → w.up n ≡ m ∷ u → is_invoke m ≡ true
      → ((server_step w.server n m room).says ≡ Sv.placed (w.server.placed + 1)) ⊎ ((k : ℕ) × ((server_step w.server n m room).says ≡ Sv.refused k))
  invoke_said room m u q e = invoke_either w.server n m room e

  -- ---- the client
  pub client_refused-invoke : (kind cell amount last room k : ℕ) → (invoke_step (w.replica n) kind cell amount last room).after.says ≡ refused k
      → (k ≡ 4) ⊎ ((k ≡ 5) ⊎ ((k ≡ 6) ⊎ (k ≡ 7)))
  unfolding invoke_step
  client_refused-invoke kind cell amount last room k h =
      let r = w.replica n in
      step_refusal r _ (invoke_no r kind cell amount last room) k (λ x. (x ≡ 4) ⊎ ((x ≡ 5) ⊎ ((x ≡ 6) ⊎ (x ≡ 7)))) tt
      (invoke_among g w.server n w.server.passed r (w.up n) (w.down n) this kind cell amount last room
      (λ x. (x ≡ 0) ⊎ ((x ≡ 4) ⊎ ((x ≡ 5) ⊎ ((x ≡ 6) ⊎ (x ≡ 7))))) (inl refl) (inr (inl refl)) (inr (inr (inl refl))) (inr (inr (inr (inl refl)))) (inr (inr (inr (inr refl)))))
      h

  pub client_refused_message : (room k : ℕ) (m : List ℕ) (d : Line) → w.down n ≡ m ∷ d → (receive_step (w.replica n) m room).after.says ≡ refused k → k ≡ 7
  client_refused_message room k m d q =
      let C = subst (Client g w.server n w.server.passed (w.replica n) (w.up n)) q this in
      by_lines g w.server n w.server.passed (w.replica n) (w.up n) m d C room k C.lines
