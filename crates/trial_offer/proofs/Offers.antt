-- Offering an invoke: what the code's parts come to. Assumes nothing.
use Prim.Native.Nat.{ℕ, ◌+◌, ◌-◌, ◌*◌, ◌<◌, ◌≤◌}
use mathlib.Core.Path.{◌≡◌, refl, sym, ap, ◌∙◌}
use mathlib.Core.List.{List, ◌++◌}
use mathlib.Core.Bool.{Bool, true, false, cond, ◌&&◌}
use lib.ListN.{length, get_or, take, drop}
use native.Mathlib.Omega.{arith}
use native.Mathlib.Numerals.{add-one}
use Rattle.slices.specs.Bytes.{put}
use Rattle.replica.specs.Replica.{over}
use Rattle.trial_said.specs.Word.{Word, empty}
use Rattle.server.specs.declared.Server.{Server}
use Rattle.server.specs.Server.{ServerTold, Step, server_step}
use Rattle.trial_core.specs.declared.Lines.{Lines}
use Rattle.trial_core.specs.Trial.{Offering, is_placed, served_word, with_reply, with_refused, offered_lines, offer, has_place, kept_invoke, offer_one, offer_to}
use Rattle.trial_offer.specs.Offers.{unsaid, offered_one, offered_to}
use Rattle.trial_offer.proofs.Parts.{over_fits, part_over, part_length, put_at}
use Rattle.server_laws.proofs.State.{Sizes}
use Rattle.trial_offer.proofs.ServerWrote.{server-wrote}

pub offering_same : {s t : Server} {l k : Lines} {v w : Word} {a b : List ℕ} → s ≡ t → l ≡ k → v ≡ w → a ≡ b
    → ◌≡◌ {A = Offering} (record { server = s; lines = l; word = v; replies = a }) (record { server = t; lines = k; word = w; replies = b })
offering_same e f g h = rw (e, f, g, h)

-- the lines, where a placed invoke's reply is n bytes long
lines_same : (l : Lines) (i passed n m : ℕ) (b : Bool) → (b ≡ true → n ≡ m)
    → cond b (with_reply l i passed n) (with_refused l i) ≡ cond b (with_reply l i passed m) (with_refused l i)
lines_same l i passed n m true f = rw (f refl)
lines_same l i passed n m false f = refl

module _ (s : Server) (l : Lines) (i : ℕ) (m replies : List ℕ) (h : i < 8) (z : length replies ≡ 10520) (y : List ℕ) where
  abbrev step : Step
  step = server_step s (i + 1) m 1315

  abbrev after : List ℕ
  after = take (i * 1315) replies ++ (y ++ drop 1315 (drop (i * 1315) replies))

  module _ (e : y ≡ over step.wrote (take 1315 (drop (i * 1315) replies))) (f : length y ≡ 1315) where
    part_room : length (take 1315 (drop (i * 1315) replies)) ≡ 1315
    part_room = part_length replies (i * 1315) 1315 (omega arith)

    wrote-fits : length step.wrote ≤ 1315
    wrote-fits =
        let g : length (over step.wrote (take 1315 (drop (i * 1315) replies))) ≡ length (take 1315 (drop (i * 1315) replies)) = sym (ap length e) ∙ f ∙ sym part_room in
        omega (arith, over_fits step.wrote (take 1315 (drop (i * 1315) replies)) g, part_room)

    after-put : after ≡ put replies (i * 1315) step.wrote
    after-put = part_over replies step.wrote y (i * 1315) 1315 (omega arith) wrote-fits e

    reply-long : Sizes s → is_placed step.says ≡ true → 3 + get_or after (i * 1315 + 2) 0 * 41 ≡ length step.wrote
    reply-long sz p =
        let w = (server-wrote s sz (i + 1) m 1315).reply p in
        let g : get_or (put replies (i * 1315) step.wrote) (i * 1315 + 2) 0 ≡ get_or step.wrote 2 0 = put_at replies step.wrote (i * 1315) 2 (omega arith) (omega (arith, w)) in
        rw (after-put, g) (sym w)

    pub offered : Sizes s → {sv : Server} {o : ServerTold} {p : Bool} {n : ℕ} {ln : Lines} {w : Word}
        → sv ≡ step.server → o ≡ step.says → n ≡ 3 + get_or after (i * 1315 + 2) 0 * 41 → p ≡ is_placed o
        → ln ≡ cond p (with_reply l i sv.passed n) (with_refused l i) → w ≡ served_word o
        → ◌≡◌ {A = Offering} (record { server = sv; lines = ln; word = w; replies = after }) (offer s l i m replies)
    unfolding offer offered_lines
    offered sz {sv} {o} {p} {n} {ln} {w} es eo en ep el ew =
        let ps : p ≡ is_placed step.says = ep ∙ ap is_placed eo in
        let lines : cond (is_placed step.says) (with_reply l i step.server.passed n) (with_refused l i)
        ≡ cond (is_placed step.says) (with_reply l i step.server.passed (length step.wrote)) (with_refused l i) =
        lines_same l i step.server.passed n (length step.wrote) (is_placed step.says) (λ b. en ∙ reply-long sz b)
        in
        let start : ln ≡ cond (is_placed step.says) (with_reply l i step.server.passed n) (with_refused l i) = el ∙ ap (λ (b : Bool). cond b (with_reply l i sv.passed n) (with_refused l i)) ps ∙ ap (λ (t : Server). cond (is_placed step.says) (with_reply l i t.passed n) (with_refused l i)) es in
        offering_same es (start ∙ lines) (ew ∙ ap served_word eo) after-put

-- the same, with the part as the code lends it
module _ (s : Server) (l : Lines) (i : ℕ) (m replies : List ℕ) (h : i < 8) (z : length replies ≡ 10520) (y : List ℕ) (k : ℕ) (hk : k ≡ 1315) where
  abbrev part : List ℕ
  part = take k (drop (i * 1315) replies)

  abbrev call : Step
  call = server_step s (i + 1) m (length part)

  abbrev back : List ℕ
  back = take (i * 1315) replies ++ (y ++ drop k (drop (i * 1315) replies))

  pub offered_part : Sizes s → {sv : Server} {o : ServerTold} {p : Bool} {n : ℕ} {ln : Lines} {w : Word}
      → sv ≡ call.server → o ≡ call.says → y ≡ over call.wrote part → length y ≡ length part
      → n ≡ 3 + get_or back (i * 1315 + 2) 0 * 41 → p ≡ is_placed o
      → ln ≡ cond p (with_reply l i sv.passed n) (with_refused l i) → w ≡ served_word o
      → ◌≡◌ {A = Offering} (record { server = sv; lines = ln; word = w; replies = back }) (offer s l i m replies)
  offered_part sz {sv} {o} {p} {n} {ln} {w} es eo ey lo en ep el ew =
      let r : length part ≡ 1315 = part_length replies (i * 1315) k (omega arith) ∙ hk in
      let c : call ≡ server_step s (i + 1) m 1315 = ap (λ (x : ℕ). server_step s (i + 1) m x) r in
      let b : back ≡ take (i * 1315) replies ++ (y ++ drop 1315 (drop (i * 1315) replies)) = ap (λ (x : ℕ). take (i * 1315) replies ++ (y ++ drop x (drop (i * 1315) replies))) hk in
      let e : y ≡ over (server_step s (i + 1) m 1315).wrote (take 1315 (drop (i * 1315) replies)) = ey ∙ ap (λ (q : Step). over q.wrote part) c ∙ ap (λ (x : ℕ). over (server_step s (i + 1) m 1315).wrote (take x (drop (i * 1315) replies))) hk in
      ap (λ (a : List ℕ). record { server = sv; lines = ln; word = w; replies = a }) b
      ∙ offered s l i m replies h z y e (lo ∙ r) sz (es ∙ ap (λ (q : Step). q.server) c) (eo ∙ ap (λ (q : Step). q.says) c)
      (en ∙ ap (λ (a : List ℕ). 3 + get_or a (i * 1315 + 2) 0 * 41) b)
      ep
      el
      ew

-- ---- offering again
unsaid-cond : (b : Bool) (x y : Offering) → unsaid (cond b x y) ≡ cond b (unsaid x) (unsaid y)
unsaid-cond true x y = refl
unsaid-cond false x y = refl

module _ (s : Server) (l : Lines) (i : ℕ) (replies invokes : List ℕ) where
  abbrev asked : Bool
  asked = get_or l.refused i false && has_place s

  pub one_goes : asked ≡ true → unsaid (offer s l i (kept_invoke invokes i) replies) ≡ offered_one s l i replies invokes
  unfolding offered_one offer_one
  one_goes e = rw e

  pub one_stays : asked ≡ false → ◌≡◌ {A = Offering} (record { server = s; lines = l; word = empty; replies = replies }) (offered_one s l i replies invokes)
  unfolding offered_one offer_one
  one_stays e = rw e

pub to_none : (s : Server) (l : Lines) (replies invokes : List ℕ)
    → ◌≡◌ {A = Offering} (record { server = s; lines = l; word = empty; replies = replies }) (offered_to 0 s l replies invokes)
unfolding offered_to offer_to
to_none s l replies invokes = refl

-- the word does not matter
one_unsaid : (o : Offering) (i : ℕ) (invokes : List ℕ) → unsaid (offer_one o i invokes) ≡ offered_one o.server o.lines i o.replies invokes
unfolding offered_one offer_one
one_unsaid o i invokes = unsaid-cond (get_or o.lines.refused i false && has_place o.server) _ o ∙ sym (unsaid-cond (get_or o.lines.refused i false && has_place o.server) _ _)

pub to_more : (n : ℕ) (s : Server) (l : Lines) (replies invokes : List ℕ) (t : Server) (k : Lines) (now : List ℕ)
    → ◌≡◌ {A = Offering} (record { server = t; lines = k; word = empty; replies = now }) (offered_to n s l replies invokes)
    → offered_one t k n now invokes ≡ offered_to (n + 1) s l replies invokes
unfolding offered_to offer_to
to_more n s l replies invokes t k now e =
    ap (λ (o : Offering). offered_one o.server o.lines n o.replies invokes) e
    ∙ sym (rw (add-one n) (one_unsaid (offer_to n s l replies invokes) n invokes))
