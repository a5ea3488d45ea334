-- Deliveries: what the code's parts come to. Assumes nothing.
use Prim.Native.Nat.{ℕ, ◌+◌, ◌*◌, ◌≤◌}
use mathlib.Core.Path.{◌≡◌, refl, sym, ap, ◌∙◌}
use mathlib.Core.List.{List}
use mathlib.Core.Bool.{true, false, not, ◌&&◌}
use lib.Dec.{leb, eqb}
use lib.ListN.{get_or, take, drop, replicate}
use borrow.Author.Tests.{leb-true}
use Rattle.trial_said.specs.Word.{Word, empty}
use Rattle.replica.specs.declared.Replica.{Replica}
use Rattle.replica.specs.Replica.{After, Step, over}
use Rattle.checks.proofs.Laws.{and_yes}
use Rattle.client.specs.Receive.{receive_step}
use Rattle.server.specs.declared.Server.{Server}
use Rattle.server.specs.Server.{server_step}
use Rattle.trial_core.specs.declared.Lines.{Lines}
use Rattle.trial_core.specs.Trial.{Move, is_success, broadcast_count, told_word, logged, reply_first, broadcast_first, without_reply, stopped_move, replied_move, reply_move, broadcast_move, empty_move, deliver_move}
use Rattle.trial_core.specs.Moves.{lent_of}
use Rattle.trial_core.proofs.Laws.{move_same}

-- ---- delivering
module _ (r : Replica) (s : Server) (l : Lines) (i : ℕ) (log replies invokes : List ℕ) (k : ℕ) where
  module _ (hk : k ≡ get_or l.lengths i 0) where
    abbrev taken : Step
    taken = receive_step r (take k (drop (i * 1315) replies)) 80

    abbrev meant : Step
    meant = receive_step r (take (get_or l.lengths i 0) (drop (i * 1315) replies)) 80

    taken_is : taken ≡ meant
    taken_is = ap (λ (x : ℕ). receive_step r (take x (drop (i * 1315) replies)) 80) hk

    module _ {a : After} (ea : a ≡ taken.after) {w : Word} (ew : w ≡ told_word a.says) where
      reply-after : a ≡ meant.after
      reply-after = ea ∙ ap (λ (x : Step). x.after) taken_is

      reply-word : w ≡ told_word meant.after.says
      reply-word = ew ∙ ap (λ (x : After). told_word x.says) reply-after

      pub reply_goes : is_success a.says ≡ true → {y : List ℕ} → y ≡ over taken.wrote (replicate 80 0) → {sv : Server} → sv ≡ (server_step s (i + 1) y 2560).server
          → {now : List ℕ} → now ≡ logged log s.passed (broadcast_count (server_step s (i + 1) y 2560).says) (server_step s (i + 1) y 2560).wrote
          → {ln : Lines} → ln ≡ without_reply l i
          → ◌≡◌ {A = Move} (record { replica = a.replica; server = sv; lines = ln; word = w; log = now; replies = replies; invokes = invokes })
          (reply_move r s l i (lent_of log replies invokes))
      unfolding reply_move replied_move
      reply_goes t {y} ey {sv} es {now} eg {ln} el =
          let u : is_success meant.after.says ≡ true = ap (λ (x : After). is_success x.says) (sym reply-after) ∙ t in
          let f : y ≡ over meant.wrote (replicate 80 0) = ey ∙ ap (λ (x : Step). over x.wrote (replicate 80 0)) taken_is in
          rw u
          (move_same (ap (λ (x : After). x.replica) reply-after) (es ∙ ap (λ (x : List ℕ). (server_step s (i + 1) x 2560).server) f) el reply-word
          (eg ∙ ap (λ (x : List ℕ). logged log s.passed (broadcast_count (server_step s (i + 1) x 2560).says) (server_step s (i + 1) x 2560).wrote) f)
          refl
          refl)

      pub reply-stops : is_success a.says ≡ false
          → ◌≡◌ {A = Move} (record { replica = a.replica; server = s; lines = l; word = w; log = log; replies = replies; invokes = invokes })
          (reply_move r s l i (lent_of log replies invokes))
      unfolding reply_move stopped_move
      reply-stops t =
          let u : is_success meant.after.says ≡ false = ap (λ (x : After). is_success x.says) (sym reply-after) ∙ t in
          rw u (move_same (ap (λ (x : After). x.replica) reply-after) refl refl reply-word refl refl refl)

-- ---- the head of a line
pub reply-short : (l : Lines) (i : ℕ) → reply_first l i ≡ true → get_or l.lengths i 0 ≤ 1315
reply-short l i e =
    let n : ℕ = get_or l.lengths i 0 in
    let f = (and_yes (not (eqb n 0) && leb n 1315) (eqb (get_or l.before i 0) (get_or l.next i 0)) e).0 in
    leb-true n 1315 (and_yes (not (eqb n 0)) (leb n 1315) f).1

module _ (r : Replica) (s : Server) (l : Lines) (i : ℕ) (log replies invokes : List ℕ) where
  pub head_reply : reply_first l i ≡ true → reply_move r s l i (lent_of log replies invokes) ≡ deliver_move r s l i (lent_of log replies invokes)
  unfolding deliver_move
  head_reply e = rw e

  pub head_broadcast : reply_first l i ≡ false → broadcast_first l i s.passed ≡ true
      → broadcast_move r s l i (lent_of log replies invokes) ≡ deliver_move r s l i (lent_of log replies invokes)
  unfolding deliver_move
  head_broadcast e f = rw (e, f)

  pub head_none : reply_first l i ≡ false → broadcast_first l i s.passed ≡ false
      → ◌≡◌ {A = Move} (record { replica = r; server = s; lines = l; word = empty; log = log; replies = replies; invokes = invokes }) (deliver_move r s l i (lent_of log replies invokes))
  unfolding deliver_move empty_move
  head_none e f = rw (e, f)
