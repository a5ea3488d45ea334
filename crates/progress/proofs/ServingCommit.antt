-- The world after the server stored the commit at the head of a line, and broadcast what is due. Assumes nothing.
use Prim.Native.Nat.{ℕ, ◌+◌, ◌<◌, ◌≤◌}
use mathlib.Core.Path.{◌≡◌, sym, ap, subst, ◌∙◌}
use mathlib.Core.Logic.{inl, inr}
use mathlib.Core.List.{List, ◌∷◌, ◌++◌}
use lib.ListN.{drop}
use native.Mathlib.Omega.{arith}
use native.Mathlib.Decide.{ℕ_discrete}
use Rattle.operation.specs.declared.Operation.{Operation}
use Rattle.operation.specs.Operation.{no_op}
use Rattle.message.specs.declared.Commit.{Commit}
use Rattle.message.specs.Message.{commit_of}
use Rattle.replica.specs.declared.Replica.{Replica}
use Rattle.server.specs.declared.Server.{Server}
use Rattle.server.specs.Server.{last_count, slot_commit, stored_server, due_count, broadcasts, passed_server, passed_step, committed_step}
use Rattle.server_laws.proofs.State.{count_same}
use Rattle.server_laws.proofs.Range.{Ordered, ordered}
use Rattle.server_laws.proofs.Checks.{Storable}
use Rattle.server_laws.proofs.Calls.{commit_long}
use Rattle.server_laws.proofs.Awaiting.{Uncommitted, stored_kept, passed_kept}
use Rattle.progress.specs.HonestRuns.{World, Line, update, put_all, pieces, served}
use Rattle.progress.proofs.Invariant.{Ghost, CommitAt, Downs, Sent, Asks, invokes, reply_seq, Settled, Client, Either, Servers, Inv}
use Rattle.progress.proofs.Settling.{settled_others}
use Rattle.progress.proofs.Lines.{other_from, downs_quiet, ups_quiet}
use Rattle.progress.proofs.Storing.{stored_servers, stored_ordered, stored_passed}
use Rattle.progress.proofs.Passing.{lines-pieces, seq-pieces, due_commits, due_servers, passed_raised}
use Rattle.progress.proofs.Heads.{sent_head, client_of, relined, client_moved, line_updated}

module _ (g : Ghost) (w : World) (I : Inv g w) (n : ℕ) (m : List ℕ) (u : Line) (q : w.up n ≡ m ∷ u) (P : Storable w.server n m) where
  abbrev s : Server
  s = w.server

  abbrev r : Replica
  r = w.replica n

  abbrev k : Commit
  k = commit_of m

  abbrev t : Server
  t = stored_server s k

  abbrev v : Server
  v = passed_server t (due_count t)

  client : Client g s n s.passed r (m ∷ u) (w.down n)
  client = client_of g s n s.passed r m u (w.down n) (subst (λ (l : Line). Either g s n s.passed r l (w.down n)) q (I.clients n))

  sent : Sent g s n m × (Asks g n r.current u × Downs g s n s.passed no_op r.confirmed (w.down n))
  sent = sent_head g s n s.passed r.current r.confirmed m u (w.down n) P.form client.lines

  -- ---- the server
  order : Ordered s
  order = ordered s P.range

  T : Servers g t
  T = stored_servers g s I.server order k P.place P.status sent.0.digest sent.0.tag

  O : Ordered t
  O = stored_ordered g s I.server order k P.place P.status sent.0.digest sent.0.tag

  same_passed : t.passed ≡ s.passed
  same_passed = stored_passed g s I.server order k P.place P.status sent.0.digest sent.0.tag

  due : (j : ℕ) → j < due_count t → CommitAt g (s.passed + j) (slot_commit t j)
  due j h = subst (λ (x : ℕ). CommitAt g (x + j) (slot_commit t j)) same_passed (due_commits g t T O j h)

  raised : v.passed ≡ s.passed + due_count t
  raised = passed_raised t (due_count t) ∙ ap (λ (x : ℕ). x + due_count t) same_passed

  -- ---- the clients with that line less its head
  kept : (j p : ℕ) (e : Operation) → (j ≡ n → ⊥) → Uncommitted s j p e → Uncommitted v j p e
  kept j p e d U =
      let l = commit_long m P.long in
      passed_kept t T.sizes O.few j p e
      (stored_kept s I.server.sizes order.few k P.place l.0 l.1 j p e (λ x. d (x ∙ sent.0.mine)) U)

  none_placed : (p : ℕ) → s.placed ≤ p → p < v.placed → ⊥
  unfolding passed_server stored_server
  none_placed p a b = omega arith

  others : (j : ℕ) → (j ≡ n → ⊥) → Either g v j s.passed (w.replica j) (w.up j) (w.down j)
  others j d =
      client_moved g s v j s.passed (w.replica j) (w.up j) (w.down j)
      (λ p e U. kept j p e d U)
      (λ a. count_same s k (due_count t) j)
      (λ p a b e. absurd (none_placed p a b))
      (I.clients j)

  counted : last_count v n + invokes u ≡ r.count
  counted =
      ap (λ (x : ℕ). x + invokes u) (count_same s k (due_count t) n)
      ∙ ap (λ (x : ℕ). last_count s n + x) (sym (other_from m u P.form))
      ∙ client.counted

  this : Client g v n s.passed r u (w.down n)
  this =
      relined g s v n s.passed s.passed r (m ∷ u) (w.down n) u (w.down n) client counted
      (settled_others g n r.confirmed r.statuses s.placed v.placed (reply_seq r.confirmed (w.down n)) (λ p a b e. absurd (none_placed p a b)) client.settled)
      (inl (ups_quiet g s v n r.current u sent.1.0, downs_quiet g s v n s.passed r.confirmed (w.down n) sent.1.1))

  less : (j : ℕ) → Either g v j s.passed (w.replica j) (update w.up n (drop 1 (w.up n)) j) (w.down j)
  less j =
      line_updated g v s.passed w.replica w.up w.down n (drop 1 (w.up n)) others
      (subst (λ (l : Line). Either g v n s.passed r l (w.down n)) (sym (ap (drop 1) q)) (inl this))
      j (ℕ_discrete j n)

  -- ---- and with the broadcasts
  abbrev sends : Line
  sends = pieces (due_count t) (broadcasts t (due_count t))

  more : (j : ℕ) (x : Replica) (l d : Line) → Either g v j s.passed x l d → Either g v j (s.passed + due_count t) x l (d ++ sends)
  more j x l d (inl C) =
      inl (relined g v v j s.passed (s.passed + due_count t) x l d l (d ++ sends) C C.counted
      (subst (Settled g v.placed j x.confirmed x.statuses) (sym (seq-pieces g v t s.passed x.confirmed d (due_count t) due)) C.settled)
      (lines-pieces g v t s.passed j x.current x.confirmed l d (due_count t) due C.lines))
  more j x l d (inr c) = inr c

  pub committed_world : Inv g (served w n (committed_step s k) (committed_step s k).says)
  unfolding served committed_step passed_step put_all
  committed_world =
      record {
        clients = λ j.
            subst (λ (b : ℕ). Either g v j b (w.replica j) (update w.up n (drop 1 (w.up n)) j) (w.down j ++ sends)) (sym raised)
            (more j (w.replica j) (update w.up n (drop 1 (w.up n)) j) (w.down j) (less j));
        server = due_servers g t T O;
      }
