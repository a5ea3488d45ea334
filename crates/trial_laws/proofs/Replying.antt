-- A client takes a reply, and the server its commit: the program's move is the run's two actions. Assumes nothing.
use Prim.Native.Nat.{ℕ, suc, ◌+◌, ◌<◌, ◌≤◌}
use mathlib.Core.Path.{◌≡◌, refl, sym, ap, subst, ◌∙◌}
use mathlib.Core.Logic.{⊎_elim}
use mathlib.Core.List.{List, [], ◌∷◌, ◌++◌, append-nil}
use mathlib.Core.Bool.{Bool, true, false, cond}
use lib.ListN.{length, get_or, set, drop, replicate}
use native.Mathlib.Omega.{arith}
use Rattle.message.specs.Message.{is_reply}
use Rattle.replica.specs.declared.Replica.{Replica}
use Rattle.replica.specs.Replica.{Step, over}
use Rattle.client.specs.Receive.{receive_step}
use Rattle.server.specs.declared.Server.{Server}
use Rattle.server.specs.Server as Sv
use Rattle.server.specs.Server.{server_step}
use Rattle.progress.specs.HonestRuns as H
use Rattle.progress.specs.HonestRuns.{World, act, deliver_in, deliver_head, serve_head, served, put_one, written}
use Rattle.progress.proofs.Acting.{update_same}
use Rattle.progress.proofs.OneWay.{invokes, invoke-counted}
use Rattle.trial_core.specs.Trial.{Lent, broadcast_count, logged, without_reply, queued_reply, kept_invoke, replied_move}
use Rattle.trial_core.specs.declared.Lines.{Lines}
use Rattle.trial_ways.proofs.Parts.{bool_cases}
use Rattle.trial_ways.proofs.Ways.{Way, way_busy, way_taken}
use Rattle.trial_ways.proofs.ServerCalls.{Passing, commit_call}
use Rattle.trial_laws.proofs.ClientCalls.{Replying, reply_step_lem}
use Rattle.trial_ways.proofs.Reached.{Reached, reached-act, one_way, takes, commit_passed, server_sizes}
use Rattle.trial_ways.proofs.Shows.{Shows}
use Rattle.trial_laws.proofs.InvokeMove.{Moved}
use Rattle.trial_laws.proofs.Replied.{relogged, replied_world, replied_shows}

over_same : (m : List ℕ) → length m ≡ 80 → over m (replicate 80 0) ≡ m
over_same m e = ap (λ (x : ℕ). m ++ drop x (replicate 80 0)) e ∙ append-nil m

module _ (rs : List Replica) (l : Lines) (b : Lent) (w : World) (S : Shows rs l b w) (R : Reached w) (i : ℕ) (h : i < 8)
    (some : 1 ≤ get_or l.lengths i 0) (first : get_or l.before i 0 ≡ get_or l.next i 0) where
  abbrev n : ℕ
  n = i + 1

  abbrev reply : List ℕ
  reply = queued_reply l b.replies i

  abbrev next : ℕ
  next = get_or l.next i 0

  abbrev before : ℕ
  before = get_or l.before i 0

  taken : (w.down n ≡ reply ∷ drop 1 (w.down n)) × (is_reply reply ≡ true) × Way b.log w.server.passed next before 0 [] (drop 1 (w.down n))
  taken = way_taken b.log w.server.passed next before (get_or l.lengths i 0) reply (w.down n) [] some first (S.client i h).way

  pub reply_head_lem : w.down n ≡ reply ∷ drop 1 (w.down n)
  reply_head_lem = taken.0

  -- an operation on its way down is not on its way up
  up_none : w.up n ≡ []
  up_none =
      let C = S.client i h in
      let m = kept_invoke b.invokes i in
      ⊎_elim
      (λ (t : get_or l.refused i false ≡ true).
      let e : invokes (w.up n) ≡ suc (invokes []) = ap invokes (C.waits ∙ ap (λ (x : Bool). cond x (m ∷ []) []) t) ∙ invoke-counted m [] (C.asks t) in
      let x = way_busy b.log w.server.passed next before (get_or l.lengths i 0) reply (w.down n) some C.way in
      let z = one_way w R i h in
      absurd (omega arith))
      (λ (f : get_or l.refused i false ≡ false). C.waits ∙ ap (λ (x : Bool). cond x (m ∷ []) []) f)
      (bool_cases (get_or l.refused i false))

  abbrev q : Step
  q = receive_step (w.replica n) reply 80

  pub replying : Replying q
  replying = reply_step_lem (w.replica n) reply 80 taken.1 (takes w R i h reply (drop 1 (w.down n)) reply_head_lem)

  -- ---- the two actions
  abbrev w1 : World
  w1 = act w (H.deliver n 80)

  delivered : w1 ≡ deliver_in w n reply 80
  unfolding act deliver_head
  delivered = ap (deliver_head w n 80) reply_head_lem

  up_in : (deliver_in w n reply 80).up n ≡ q.wrote ∷ []
  unfolding deliver_in put_one
  up_in = update_same w.up n n (w.up n ++ written q.wrote) refl ∙ rw (up_none, replying.one)

  up_own : w1.up n ≡ q.wrote ∷ []
  up_own = ap (λ (x : World). x.up n) delivered ∙ up_in

  server_same : w1.server ≡ w.server
  unfolding deliver_in
  server_same = ap (λ (x : World). x.server) delivered

  abbrev y : Sv.Step
  y = server_step w.server n q.wrote 2560

  said : (k : ℕ) × (y.says ≡ Sv.broadcast k)
  said =
      subst (λ (s : Server). (k : ℕ) × ((server_step s n q.wrote 2560).says ≡ Sv.broadcast k)) server_same
      (commit_passed w1 (reached-act w (H.deliver n 80) R) i h q.wrote [] up_own replying.other)

  abbrev k : ℕ
  k = said.0

  passing : Passing w.server q.wrote y k
  passing = commit_call w.server n q.wrote 2560 k (server_sizes w R) said.1

  abbrev after : World
  after = act w1 (H.serve n 2560)

  after_is : after ≡ replied_world w n q y k
  unfolding act serve_head served deliver_in replied_world
  after_is =
      ap (serve_head w1 n 2560) up_own
      ∙ ap (λ (x : World). served x n (server_step x.server n q.wrote 2560) (server_step x.server n q.wrote 2560).says) delivered
      ∙ ap (served (deliver_in w n reply 80) n y) said.1

  -- ---- the move
  shown : Shows (set rs i q.after.replica) (without_reply l i) (relogged b (logged b.log w.server.passed k y.wrote)) (replied_world w n q y k)
  shown =
      replied_shows rs l b w S i h q replying y k passing
      (subst Reached after_is (reached-act w1 (H.serve n 2560) (reached-act w (H.deliver n 80) R))) up_none taken.2

  -- after the server's call z, which wrote c broadcasts
  abbrev Good : World → Sv.Step → ℕ → Type 0
  Good v z c = Shows (set rs i q.after.replica) (without_reply l i) (relogged b (logged b.log w.server.passed c z.wrote)) v × (z.server ≡ v.server)

  good : Good (replied_world w n q y k) y k
  unfolding replied_world
  good = (shown, refl)

  good_after : Good after y (broadcast_count y.says)
  good_after =
      subst (Good after y) (sym (ap broadcast_count said.1))
      (subst (λ (v : World). Good v y k) (sym after_is) good)

  pub replied_move_lem : Moved rs i after (replied_move q w.server l i b)
  unfolding replied_move
  replied_move_lem =
      subst (λ (m : List ℕ). Good after (server_step w.server n m 2560) (broadcast_count (server_step w.server n m 2560).says))
      (sym (over_same q.wrote passing.long)) good_after
