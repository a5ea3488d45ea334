-- `D van`: the client takes the head of its line. Assumes nothing.
use Prim.Native.Nat.{ℕ, ◌+◌, ◌<◌, ◌≤◌}
use mathlib.Core.Path.{◌≡◌, refl, sym, ap, subst, ◌∙◌}
use mathlib.Core.List.{List, [], ◌∷◌}
use mathlib.Core.Bool.{true, false, not, ◌&&◌, true≢false}
use lib.ListN.{get_or, set, drop}
use lib.Dec.{leb, eqb}
use lib.Seq.{set-get_or}
use native.Mathlib.Omega.{arith}
use borrow.Author.Tests.{eqb-true, eqb-false, not-true, ltb-true, ltb-false, le-leb, eq-eqb, ne_eqb}
use Rattle.slices.proofs.Laws.{and_yes}
use Rattle.replica.specs.declared.Replica.{Replica}
use Rattle.replica.specs.Outcome.{Told}
use Rattle.replica.specs.Replica.{zero_replica}
use Rattle.checks.proofs.Laws.{cond_cases}
use Rattle.client.specs.Receive.{receive_step}
use Rattle.progress.specs.HonestRuns as H
use Rattle.progress.specs.HonestRuns.{World, Line, Action, act, run_from, deliver_head, told_head, told_in}
use Rattle.trial_said.specs.Word.{empty}
use Rattle.trial_core.specs.Trial.{Lent, Move, reply_first, broadcast_first, queued_reply, logged_broadcast, told_word, replied_move, confirmed_move, reply_move, broadcast_move, empty_move, deliver_move}
use Rattle.trial_core.specs.declared.Lines.{Lines}
use Rattle.trial_laws.specs.TrialRuns.{sent, sent_by, deliver_actions, deliver_word}
use Rattle.trial_ways.proofs.Ways.{way_empty}
use Rattle.trial_ways.proofs.Reached.{Reached}
use Rattle.trial_ways.proofs.Shows.{Shows}
use Rattle.trial_laws.proofs.InvokeMove.{Moved}
use Rattle.trial_laws.proofs.Replying.{replying, reply_head_lem, replied_move_lem}
use Rattle.trial_laws.proofs.Confirming.{confirming, broadcast_head, confirmed_move_lem}

-- the test whether the reply is the head
first_yes : (len before next : ℕ) → (not (eqb len 0) && leb len 1315 && eqb before next) ≡ true → (1 ≤ len) × (before ≡ next)
first_yes len before next e =
    let y = and_yes (not (eqb len 0) && leb len 1315) (eqb before next) e in
    let z = and_yes (not (eqb len 0)) (leb len 1315) y.0 in
    let s = eqb-false len 0 (not-true (eqb len 0) z.0) in
    (omega arith, eqb-true before next y.1)

first_no_lem : (len before next : ℕ) → (not (eqb len 0) && leb len 1315 && eqb before next) ≡ false → 1 ≤ len → len ≤ 1315 → before ≡ next → ⊥
first_no_lem len before next e a c q =
    let x : eqb len 0 ≡ false = ne_eqb len 0 (λ z. omega arith) in
    let y : (not (eqb len 0) && leb len 1315 && eqb before next) ≡ true = rw (x, le-leb len 1315 c, eq-eqb before next q) in
    true≢false (sym y ∙ e)

-- ---- where m is the head of the line
told_head_lem : (w : World) (n : ℕ) (m : List ℕ) (d : Line) → w.down n ≡ m ∷ d → told_in w (H.deliver n 80) ≡ (receive_step (w.replica n) m 80).after.says ∷ []
unfolding told_in told_head
told_head_lem w n m d e = ap (told_head w n 80) e

run_head : (w : World) (n : ℕ) (m : List ℕ) (d : Line) (more : List Action) → w.down n ≡ m ∷ d
    → sent n 2560 (receive_step (w.replica n) m 80).after.says ≡ more → run_from w (deliver_actions w n) ≡ run_from (act w (H.deliver n 80)) more
unfolding deliver_actions sent_by run_from
run_head w n m d more e s =
    ap (λ (ts : List Told). run_from (act w (H.deliver n 80)) (sent_by n ts)) (told_head_lem w n m d e)
    ∙ ap (run_from (act w (H.deliver n 80))) s

word_head : (w : World) (n : ℕ) (m : List ℕ) (d : Line) → w.down n ≡ m ∷ d → told_word (receive_step (w.replica n) m 80).after.says ≡ deliver_word (told_in w (H.deliver n 80))
unfolding deliver_word
word_head w n m d e = ap deliver_word (sym (told_head_lem w n m d e))

-- ---- where the line is empty
run_none : (w : World) (n : ℕ) → w.down n ≡ [] → run_from w (deliver_actions w n) ≡ w
unfolding deliver_actions sent_by told_in told_head run_from act deliver_head
run_none w n e =
    ap (λ (d : Line). run_from (act w (H.deliver n 80)) (sent_by n (told_head w n 80 d))) e
    ∙ ap (deliver_head w n 80) e

word_none : (w : World) (n : ℕ) → w.down n ≡ [] → empty ≡ deliver_word (told_in w (H.deliver n 80))
unfolding deliver_word told_in told_head
word_none w n e = ap (λ (d : Line). deliver_word (told_head w n 80 d)) (sym e)

module _ (rs : List Replica) (l : Lines) (b : Lent) (w : World) (S : Shows rs l b w) (R : Reached w) (i : ℕ) (h : i < 8) where
  abbrev n : ℕ
  n = i + 1

  abbrev Good : Move → Type 0
  Good m = Moved rs i (run_from w (deliver_actions w n)) m × (m.word ≡ deliver_word (told_in w (H.deliver n 80)))

  reply_case : reply_first l i ≡ true → Good (reply_move (w.replica n) w.server l i b)
  unfolding reply_move replied_move run_from
  reply_case e =
      let f = first_yes (get_or l.lengths i 0) (get_or l.before i 0) (get_or l.next i 0) e in
      let m = queued_reply l b.replies i in
      let q = receive_step (w.replica n) m 80 in
      let P = replying rs l b w S R i h f.0 f.1 in
      let d = reply_head_lem rs l b w S R i h f.0 f.1 in
      rw P.yes_told (
        subst (λ (v : World). Moved rs i v (replied_move q w.server l i b)) (sym (run_head w n m (drop 1 (w.down n)) (H.serve n 2560 ∷ []) d (P.sent_told n 2560)))
            (replied_move_lem rs l b w S R i h f.0 f.1),
        word_head w n m (drop 1 (w.down n)) d,
      )

  broadcast_case : reply_first l i ≡ false → broadcast_first l i w.server.passed ≡ true → Good (broadcast_move (w.replica n) w.server l i b)
  unfolding broadcast_move confirmed_move run_from
  broadcast_case e g =
      let f = first_no_lem (get_or l.lengths i 0) (get_or l.before i 0) (get_or l.next i 0) e in
      let k = ltb-true (get_or l.next i 0) w.server.passed g in
      let m = logged_broadcast b.log (get_or l.next i 0) in
      let q = receive_step (w.replica n) m 80 in
      let P = confirming rs l b w S R i h k f in
      let d = broadcast_head rs l b w S R i h k f in
      rw P.yes_told (
        subst (λ (v : World). Moved rs i v (confirmed_move q w.server l i b)) (sym (run_head w n m (drop 1 (w.down n)) [] d (P.sent_told n 2560)))
            (confirmed_move_lem rs l b w S R i h k f),
        word_head w n m (drop 1 (w.down n)) d,
      )

  empty_case : reply_first l i ≡ false → broadcast_first l i w.server.passed ≡ false → Good (empty_move (w.replica n) w.server l b)
  unfolding empty_move
  empty_case e g =
      let f = first_no_lem (get_or l.lengths i 0) (get_or l.before i 0) (get_or l.next i 0) e in
      let k = ltb-false (get_or l.next i 0) w.server.passed g in
      let d =
      way_empty b.log w.server.passed (get_or l.next i 0) (get_or l.before i 0) (get_or l.lengths i 0) (queued_reply l b.replies i) (w.down n) k f
      (S.client i h).way in
      let z : set rs i (w.replica n) ≡ rs = ap (set rs i) (sym (S.replica i h)) ∙ set-get_or rs i zero_replica in (
        subst (λ (v : World). Moved rs i v (empty_move (w.replica n) w.server l b)) (sym (run_none w n d))
            (subst (λ (x : List Replica). Shows x l b w) (sym z) S, refl),
        word_none w n d,
      )

  pub deliver_move_lem : Good (deliver_move (w.replica n) w.server l i b)
  unfolding deliver_move
  deliver_move_lem =
      cond_cases Good (reply_first l i) (reply_move (w.replica n) w.server l i b) _ reply_case
      (λ e. cond_cases Good (broadcast_first l i w.server.passed) (broadcast_move (w.replica n) w.server l i b) (empty_move (w.replica n) w.server l b)
      (broadcast_case e)
      (empty_case e))
