-- The server takes a client's invoke: the program's offer is the run's action. Assumes nothing.
use Prim.Native.Nat.{ℕ, suc, ◌+◌, ◌*◌, ◌<◌, ◌≤◌}
use mathlib.Core.Path.{◌≡◌, refl, sym, ap, subst, ◌∙◌}
use mathlib.Core.Logic.{⊎_elim}
use mathlib.Core.List.{List, [], ◌∷◌, ◌++◌, Memᴰ}
use mathlib.Core.Bool.{Bool, true, false, cond, true≢false}
use lib.ListN.{length, get_or, set, drop, length-set}
use lib.Seq.{get_or-set_same, get_or-set_other, set-get_or}
use native.Mathlib.Omega.{arith}
use Rattle.slices.specs.Bytes.{put}
use Rattle.slices.proofs.Laws.{put-length}
use Rattle.message.specs.Message.{is_invoke, is_reply}
use Rattle.message.proofs.Laws.{reply-length}
use Rattle.replica.specs.declared.Replica.{Replica}
use Rattle.server.specs.Server as Sv
use Rattle.server.specs.Server.{server_step, stop_step}
use Rattle.progress.specs.HonestRuns as H
use Rattle.progress.specs.HonestRuns.{World, Line, act, serve_head, served, update, put_one, written}
use Rattle.progress.proofs.Acting.{update_same, update_other}
use Rattle.progress.proofs.OneWay.{replies, invokes, invoke-counted, reply_1315}
use Rattle.trial_core.specs.Trial.{Lent, Offering, offer, offered_lines, with_reply, with_refused, is_placed, queued_reply, kept_invoke}
use Rattle.trial_core.specs.declared.Lines.{Lines}
use Rattle.trial_ways.proofs.Parts.{bool_cases, part_put, part_other, put_none}
use Rattle.trial_ways.proofs.Ways.{Way, way_reply, way_idle, way_small}
use Rattle.trial_ways.proofs.ServerCalls.{Placing, invoke-call}
use Rattle.trial_ways.proofs.Reached.{Reached, reached-act, one_way, to_broadcast}
use Rattle.trial_ways.proofs.Shows.{ClientAt, Sizes, Shows, trues, trues_less, by_client}

member_end : (d : Line) (m : List ℕ) → Memᴰ m (d ++ (m ∷ []))
member_end [] m = Memᴰ.head refl
member_end (x ∷ d) m = Memᴰ.tail (member_end d m)

-- the bytes lent, with other replies
abbrev pub replied : Lent → List ℕ → Lent
replied b replies = record { log = b.log; replies = replies; invokes = b.invokes }

-- ---- the world after
unfoldable pub placed_world : World → ℕ → Sv.Step → World
placed_world w n y =
    record { server = y.server; replica = w.replica; up = update w.up n (drop 1 (w.up n)); down = put_one w.down n (written y.wrote) }

module _ (rs : List Replica) (l : Lines) (b : Lent) (w : World) (S : Shows rs l b w) (R : Reached w) (i : ℕ) (h : i < 8)
    (waiting : get_or l.refused i false ≡ true) where
  abbrev m : List ℕ
  m = kept_invoke b.invokes i

  abbrev n : ℕ
  n = i + 1

  form : is_invoke m ≡ true
  form = (S.client i h).asks waiting

  head : w.up n ≡ m ∷ []
  head = (S.client i h).waits ∙ ap (λ (x : Bool). cond x (m ∷ []) []) waiting

  idle : replies (w.down n) ≡ 0
  idle =
      let e : invokes (w.up n) ≡ suc (invokes []) = ap invokes head ∙ invoke-counted m [] form in
      let o = one_way w R i h in
      omega arith

  none_there : get_or l.lengths i 0 ≡ 0
  none_there =
      way_idle b.log w.server.passed (get_or l.next i 0) (get_or l.before i 0) (get_or l.lengths i 0) (queued_reply l b.replies i) (w.down n)
      idle (S.client i h).way

  -- ---- placed
  module _ (y : Sv.Step) (P : Placing w.server y) (R2 : Reached (placed_world w n y)) where
    abbrev v : World
    v = placed_world w n y

    abbrev l2 : Lines
    l2 = with_reply l i y.server.passed (length y.wrote)

    abbrev b2 : Lent
    b2 = replied b (put b.replies (i * 1315) y.wrote)

    down_own : (placed_world w n y).down n ≡ w.down n ++ (y.wrote ∷ [])
    unfolding placed_world put_one
    down_own = update_same w.down n n (w.down n ++ written y.wrote) refl ∙ ap (λ (x : Line). w.down n ++ x) P.one

    reply_form : is_reply y.wrote ≡ true
    reply_form =
        ⊎_elim
        (λ (t : is_reply y.wrote ≡ true). t)
        (λ (f : is_reply y.wrote ≡ false).
        absurd (true≢false (sym (to_broadcast v R2 i h y.wrote (subst (Memᴰ y.wrote) (sym down_own) (member_end (w.down n) y.wrote)) f) ∙ P.other)))
        (bool_cases (is_reply y.wrote))

    few : length y.wrote ≤ 1315
    few = reply_1315 y.wrote reply_form

    some : 1 ≤ length y.wrote
    some = let e = reply-length y.wrote reply_form in omega arith

    own_way : Way b.log w.server.passed (get_or l.next i 0) w.server.passed (length y.wrote) y.wrote (w.down n ++ (y.wrote ∷ []))
    own_way =
        way_reply b.log w.server.passed (get_or l.next i 0) (get_or l.before i 0) (get_or l.lengths i 0) (queued_reply l b.replies i) (w.down n)
        y.wrote (length y.wrote) none_there some few reply_form (S.client i h).way

    own : ClientAt l2 b2 v i
    unfolding placed_world with_reply
    own =
        rw (
          P.passed,
          get_or-set_same l.before i w.server.passed 0 (omega (arith, S.sizes.before)),
          get_or-set_same l.lengths i (length y.wrote) 0 (omega (arith, S.sizes.lengths)),
          get_or-set_same l.refused i false false (omega (arith, S.sizes.refused)),
          part_put b.replies y.wrote (i * 1315) (length y.wrote) refl (omega (arith, S.sizes.replies)),
          update_same w.up n n (drop 1 (w.up n)) refl,
          down_own,
          head,
        )
        (record { way = own_way; quiet = (S.client i h).quiet; waits = refl; asks = λ e. absurd (true≢false (sym e)) })

    other : (j : ℕ) → j < 8 → (j ≡ i → ⊥) → ClientAt l2 b2 v j
    unfolding placed_world with_reply put_one
    other j g e =
        let small =
        way_small b.log w.server.passed (get_or l.next j 0) (get_or l.before j 0) (get_or l.lengths j 0) (queued_reply l b.replies j) (w.down (j + 1))
        (S.client j g).way in
        rw (
          P.passed,
          get_or-set_other l.before i j w.server.passed 0 e,
          get_or-set_other l.lengths i j (length y.wrote) 0 e,
          get_or-set_other l.refused i j false false e,
          part_other b.replies y.wrote 1315 i j (get_or l.lengths j 0) (omega (arith, S.sizes.replies)) few small e,
          update_other w.up n (j + 1) (drop 1 (w.up n)) (λ q. e (omega arith)),
          update_other w.down n (j + 1) (w.down n ++ written y.wrote) (λ q. e (omega arith)),
        )
        (S.client j g)

    sizes : Sizes rs l2 b2
    unfolding with_reply
    sizes =
        let Z = S.sizes in
        record {
          replicas = Z.replicas;
          next = Z.next;
          before = length-set l.before i y.server.passed ∙ Z.before;
          lengths = length-set l.lengths i (length y.wrote) ∙ Z.lengths;
          refused = length-set l.refused i false ∙ Z.refused;
          log = Z.log;
          replies = put-length b.replies y.wrote (i * 1315) (omega (arith, few, Z.replies)) ∙ Z.replies;
          invokes = Z.invokes;
        }

    bound : (j : ℕ) → j < 8 → v.server.placed + trues l2.refused ≤ get_or l2.next j 0 + 295
    unfolding placed_world with_reply
    bound j g = let t = trues_less l.refused i waiting in let o = S.bound j g in omega (arith, P.placed)

    placed_shows : Shows rs l2 b2 v
    unfolding placed_world
    placed_shows = record { sizes = sizes; replica = S.replica; client = by_client (ClientAt l2 b2 v) i own other; bound = bound }

  -- ---- the call
  abbrev Goal : Sv.Step → Sv.ServerTold → Type 0
  Goal y t =
      Shows rs (cond (is_placed t) (with_reply l i y.server.passed (length y.wrote)) (with_refused l i)) (replied b (put b.replies (i * 1315) y.wrote))
      (served w n y t) × (y.server ≡ (served w n y t).server)

  placed_goal : (y : Sv.Step) (k : ℕ) → Placing w.server y → y.says ≡ Sv.placed k → Reached (served w n y y.says) → Goal y (Sv.placed k)
  unfolding served placed_world
  placed_goal y k P e R2 = (placed_shows y P (rw e at R2), refl)

  refused-lines : with_refused l i ≡ l
  unfolding with_refused
  refused-lines =
      let e : set l.refused i true ≡ l.refused = ap (set l.refused i) (sym waiting) ∙ set-get_or l.refused i false in
      ap (λ (x : List Bool). record { next = l.next; before = l.before; lengths = l.lengths; refused = x }) e

  stopped_goal : (x : ℕ) → Goal (stop_step w.server x) (Sv.refused x)
  unfolding served
  stopped_goal x = (rw (refused-lines, put_none b.replies (i * 1315)) S, refl)

  abbrev step : Sv.Step
  step = server_step w.server n m 1315

  serve_is : act w (H.serve n 1315) ≡ served w n step step.says
  unfolding act serve_head
  serve_is = ap (serve_head w n 1315) head

  goal : Goal step step.says
  goal =
      ⊎_elim
      (λ (P : Placing w.server step).
      subst (Goal step) (sym P.says)
      (placed_goal step (w.server.placed + 1) P P.says (subst Reached serve_is (reached-act w (H.serve n 1315) R))))
      (λ (q : (x : ℕ) × (step ≡ stop_step w.server x)).
      subst (λ (y : Sv.Step). Goal y y.says) (sym q.1) (stopped_goal q.0))
      (invoke-call w.server n m 1315 form)

  abbrev o : Offering
  o = offer w.server l i m b.replies

  pub offered : Shows rs o.lines (replied b o.replies) (act w (H.serve n 1315)) × (o.server ≡ (act w (H.serve n 1315)).server)
  unfolding offer offered_lines
  offered = subst (λ (v : World). Shows rs o.lines (replied b o.replies) v × (o.server ≡ v.server)) (sym serve_is) goal
