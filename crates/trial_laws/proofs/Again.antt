-- The refused invokes are offered again, lowest client first: the program's pass is the run's eight actions. Assumes nothing.
use Prim.Native.Nat.{ℕ, zero, suc, ◌+◌, ◌<◌, ◌≤◌}
use mathlib.Core.Path.{◌≡◌, refl, sym, ap, subst, ◌∙◌}
use mathlib.Core.Logic.{⊎_elim}
use mathlib.Core.List.{List, [], ◌∷◌}
use mathlib.Core.Bool.{Bool, true, false, cond, ◌&&◌}
use lib.ListN.{get_or}
use native.Mathlib.Omega.{arith}
use native.Mathlib.Numerals.{add-one}
use Rattle.slices.proofs.Laws.{and_yes}
use Rattle.message.specs.Message.{is_invoke}
use Rattle.replica.specs.declared.Replica.{Replica}
use Rattle.checks.proofs.Laws.{cond_cases}
use Rattle.server.specs.declared.Server.{Server}
use Rattle.server.specs.Server as Sv
use Rattle.server.specs.Server.{server_step, stop_step}
use Rattle.progress.specs.HonestRuns as H
use Rattle.progress.specs.HonestRuns.{World, Line, act, run_from, serve_head, served}
use Rattle.trial_core.specs.Trial.{Lent, Offering, offer, offer_one, offer_to, has_place, kept_invoke}
use Rattle.trial_core.specs.declared.Lines.{Lines}
use Rattle.trial_laws.specs.TrialRuns.{offers}
use Rattle.trial_ways.proofs.Parts.{bool_cases}
use Rattle.trial_ways.proofs.ServerCalls.{no_place}
use Rattle.trial_ways.proofs.Reached.{Reached, run_append, reached_run}
use Rattle.trial_ways.proofs.Shows.{Shows}
use Rattle.trial_ways.proofs.Offering.{replied, offered}

-- ---- actions that change nothing
serve_none : (w : World) (n room : ℕ) → w.up n ≡ [] → act w (H.serve n room) ≡ w
unfolding act serve_head
serve_none w n room e = ap (serve_head w n room) e

served-stopped : (w : World) (n : ℕ) (y : Sv.Step) (x : ℕ) → y ≡ stop_step w.server x → served w n y y.says ≡ w
unfolding served
served-stopped w n y x e = ap (λ (z : Sv.Step). served w n z z.says) e

serve-stopped : (w : World) (n room : ℕ) (m : List ℕ) (u : Line) → w.up n ≡ m ∷ u → is_invoke m ≡ true → has_place w.server ≡ false → act w (H.serve n room) ≡ w
unfolding act serve_head
serve-stopped w n room m u q e f =
    let z = no_place w.server n m room e f in
    ap (serve_head w n room) q ∙ served-stopped w n (server_step w.server n m room) z.0 z.1

and_no : (a b : Bool) → (a && b) ≡ false → a ≡ true → b ≡ false
and_no a b e t = rw t at e

-- ---- one client
abbrev pub Good : List Replica → Lent → World → Offering → Type 0
Good rs b v o = Shows rs o.lines (replied b o.replies) v × (o.server ≡ v.server)

module _ (rs : List Replica) (b : Lent) (w : World) (R : Reached w) (i : ℕ) (h : i < 8) where
  abbrev v : World
  v = act w (H.serve (i + 1) 1315)

  module _ (o : Offering) (G : Good rs b w o) where
    abbrev m : List ℕ
    m = kept_invoke b.invokes i

    waiting : get_or o.lines.refused i false ≡ true → Good rs b v (offer o.server o.lines i m o.replies)
    waiting e =
        subst (λ (s : Server). Good rs b v (offer s o.lines i m o.replies)) (sym G.1)
        (offered rs o.lines (replied b o.replies) w G.0 R i h e)

    none_waits : get_or o.lines.refused i false ≡ false → act w (H.serve (i + 1) 1315) ≡ w
    none_waits e = serve_none w (i + 1) 1315 ((G.0.client i h).waits ∙ ap (λ (x : Bool). cond x (m ∷ []) []) e)

    no_place_left : get_or o.lines.refused i false ≡ true → has_place o.server ≡ false → act w (H.serve (i + 1) 1315) ≡ w
    no_place_left e f =
        let C = G.0.client i h in
        serve-stopped w (i + 1) 1315 m [] (C.waits ∙ ap (λ (x : Bool). cond x (m ∷ []) []) e) (C.asks e) (ap has_place (sym G.1) ∙ f)

    one_good : Good rs b v (offer_one o i b.invokes)
    unfolding offer_one
    one_good =
        let t = get_or o.lines.refused i false in
        let p = has_place o.server in
        cond_cases (Good rs b v) (t && p) (offer o.server o.lines i m o.replies) o
        (λ e. waiting (and_yes t p e).0)
        (λ e. subst (λ (z : World). Good rs b z o)
        (sym (⊎_elim (λ (x : t ≡ true). no_place_left x (and_no t p e x)) (λ (x : t ≡ false). none_waits x) (bool_cases t)))
        G)

-- ---- all of them
offers_run : (w : World) (k : ℕ) → run_from w (offers (suc k)) ≡ act (run_from w (offers k)) (H.serve (k + 1) 1315)
unfolding offers run_from
offers_run w k = run_append w (offers k) (H.serve (suc k) 1315 ∷ []) ∙ ap (λ (n : ℕ). act (run_from w (offers k)) (H.serve n 1315)) (sym (add-one k))

module _ (rs : List Replica) (l : Lines) (b : Lent) (w : World) (S : Shows rs l b w) (R : Reached w) where
  abbrev to : ℕ → Offering
  to k = offer_to k w.server l b.replies b.invokes

  pub again : (k : ℕ) → k ≤ 8 → Good rs b (run_from w (offers k)) (to k)
  unfolding offer_to offers run_from
  again zero h = (S, refl)
  again (suc k) h =
      let G = again k (omega arith) in
      subst (λ (v : World). Good rs b v (offer_one (to k) k b.invokes)) (sym (offers_run w k))
      (one_good rs b (run_from w (offers k)) (reached_run w (offers k) R) k h (to k) G)
