-- `I van kind cell amount`, where no line is full. Assumes nothing.
use Prim.Native.Nat.{ℕ, ◌+◌, ◌*◌, ◌<◌}
use mathlib.Core.Path.{◌≡◌, refl, sym, ap, subst, ◌∙◌}
use mathlib.Core.Logic.{⊎_elim}
use mathlib.Core.List.{List, ◌∷◌}
use mathlib.Core.Bool.{Bool, true, false}
use lib.ListN.{length, get_or, set}
use lib.Seq.{get_or-set_same, set-set}
use native.Mathlib.Omega.{arith}
use Rattle.slices.specs.Bytes.{put}
use Rattle.replica.specs.declared.Replica.{Replica}
use Rattle.replica.specs.Outcome.{Told}
use Rattle.replica.specs.Replica.{Step}
use Rattle.client_invoke.specs.Invoke.{invoke_step}
use Rattle.server.specs.declared.Server.{Server}
use Rattle.server.specs.Server as Sv
use Rattle.server.specs.Server.{server_step}
use Rattle.progress.specs.HonestRuns as H
use Rattle.progress.specs.HonestRuns.{World, Action, act, run_from, invoke_in}
use Rattle.trial_core.specs.Trial.{Lent, Move, Offering, with_reply, with_refused, offered_lines, offer, is_success, served_word, kept_invoke, invoked_move, stopped_move, invoke_move}
use Rattle.trial_core.specs.declared.Lines.{Lines}
use Rattle.trial_laws.specs.TrialRuns.{some_full, sent, head_word, invoked_word}
use Rattle.trial_laws.proofs.ClientCalls.{Invoking, Stopping, invoke_step_lem}
use Rattle.trial_ways.proofs.Reached.{Reached, reached-act}
use Rattle.trial_ways.proofs.Shows.{Shows}
use Rattle.trial_ways.proofs.Offering.{replied, offered}
use Rattle.trial_laws.proofs.Invoking.{asked, called_world, stopped_shows, invoked_shows, up_own, invoke_own}

-- a move of client i + 1 shows the world v
abbrev pub lent_of : Move → Lent
lent_of m = record { log = m.log; replies = m.replies; invokes = m.invokes }

abbrev pub Moved : List Replica → ℕ → World → Move → Type 0
Moved rs i v m = Shows (set rs i m.replica) m.lines (lent_of m) v × (m.server ≡ v.server)

-- ---- an offer of an invoke that already waits
refused-twice : (l : Lines) (i : ℕ) → with_refused (with_refused l i) i ≡ with_refused l i
unfolding with_refused
refused-twice l i =
    ap (λ (x : List Bool). record { next = l.next; before = l.before; lengths = l.lengths; refused = x }) (set-set l.refused i true true)

reply-after : (l : Lines) (i p n : ℕ) → with_reply (with_refused l i) i p n ≡ with_reply l i p n
unfolding with_reply with_refused
reply-after l i p n =
    ap (λ (x : List Bool). record { next = l.next; before = set l.before i p; lengths = set l.lengths i n; refused = x }) (set-set l.refused i true false)

lines_same : (l : Lines) (i : ℕ) (y : Sv.Step) → offered_lines (with_refused l i) i y ≡ offered_lines l i y
unfolding offered_lines
lines_same l i y = rw (reply-after l i, refused-twice l i)

offer_same : (s : Server) (l : Lines) (i : ℕ) (m replies : List ℕ) → offer s (with_refused l i) i m replies ≡ offer s l i m replies
unfolding offer
offer_same s l i m replies =
    ap (λ (x : Lines). record {
      server = (server_step s (i + 1) m 1315).server;
      lines = x;
      word = served_word (server_step s (i + 1) m 1315).says;
      replies = put replies (i * 1315) (server_step s (i + 1) m 1315).wrote;
    })
    (lines_same l i (server_step s (i + 1) m 1315))

refused_own : (l : Lines) (i : ℕ) → i < 8 → length l.refused ≡ 8 → get_or (with_refused l i).refused i false ≡ true
unfolding with_refused
refused_own l i h z = get_or-set_same l.refused i true false (omega arith)

module _ (rs : List Replica) (l : Lines) (b : Lent) (w : World) (S : Shows rs l b w) (R : Reached w) (i : ℕ) (h : i < 8)
    (F : some_full w 8 ≡ false) (kind cell amount : ℕ) where
  abbrev n : ℕ
  n = i + 1

  abbrev q : Step
  q = invoke_step (w.replica n) kind cell amount 0 43

  abbrev a : Action
  a = H.invoke n kind cell amount 0 43

  called : act w a ≡ called_world w n q
  unfolding act invoke_in called_world
  called = refl

  abbrev Good : Move → Type 0
  Good m = Moved rs i (run_from w (a ∷ sent n 1315 q.after.says)) m × (m.word ≡ invoked_word (act w a) n q.after.says)

  invoked_yes : Invoking (w.replica n) q → is_success q.after.says ≡ true
  invoked_yes P = ap is_success P.says.1

  -- ---- a check stopped the call
  stopped_run : Stopping q → run_from w (a ∷ sent n 1315 q.after.says) ≡ called_world w n q
  unfolding run_from
  stopped_run P = ap (run_from (act w a)) (P.sent_told n 1315) ∙ called

  stopped : Stopping q → Good (stopped_move q w.server l b)
  unfolding stopped_move called_world
  stopped P = (
    subst (λ (v : World). Moved rs i v (stopped_move q w.server l b)) (sym (stopped_run P)) (stopped_shows rs l b w S R i h q P, refl),
    sym (P.word_told (act w a) n),
  )

  -- ---- an invoke is written
  module _ (P : Invoking (w.replica n) q) where
    abbrev v : World
    v = called_world w n q

    abbrev b2 : Lent
    b2 = asked b (put b.invokes (i * 43) q.wrote)

    abbrev m : List ℕ
    m = kept_invoke b2.invokes i

    invoked_run : run_from w (a ∷ sent n 1315 q.after.says) ≡ act v (H.serve n 1315)
    unfolding run_from sent
    invoked_run = ap (λ (t : Told). run_from (act w a) (sent n 1315 t)) P.says.1 ∙ ap (λ (x : World). act x (H.serve n 1315)) called

    offered_again : Moved rs i (act v (H.serve n 1315)) (invoked_move q w.server l i b)
    unfolding invoked_move called_world
    offered_again =
        subst (λ (o : Offering). Shows (set rs i q.after.replica) o.lines (replied b2 o.replies) (act v (H.serve n 1315)) × (o.server ≡ (act v (H.serve n 1315)).server))
        (offer_same w.server l i m b.replies)
        (offered (set rs i q.after.replica) (with_refused l i) b2 v (invoked_shows rs l b w S R i h q P F)
        (subst Reached called (reached-act w a R)) i h (refused_own l i h S.sizes.refused))

    word : served_word (server_step w.server n m 1315).says ≡ invoked_word (act w a) n q.after.says
    unfolding invoked_word head_word called_world
    word =
        ap (λ (x : List ℕ). served_word (server_step w.server n x 1315).says) (invoke_own rs l b w S R i h q P F)
        ∙ ap (head_word v n) (sym (up_own rs l b w S R i h q P F))
        ∙ ap (λ (x : World). head_word x n (x.up n)) (sym called)
        ∙ ap (invoked_word (act w a) n) (sym P.says.1)

    invoked : Good (invoked_move q w.server l i b)
    unfolding invoked_move offer
    invoked = (subst (λ (x : World). Moved rs i x (invoked_move q w.server l i b)) (sym invoked_run) offered_again, word)

  pub invoke_move_lem : Good (invoke_move (w.replica n) w.server l i kind cell amount b)
  unfolding invoke_move
  invoke_move_lem =
      ⊎_elim
      (λ (P : Invoking (w.replica n) q). rw (invoked_yes P) (invoked P))
      (λ (P : Stopping q). rw P.no_told (stopped P))
      (invoke_step_lem (w.replica n) kind cell amount 0 43)
