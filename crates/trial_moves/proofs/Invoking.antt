-- Invoking: what the code's parts come to. Assumes nothing.
use Prim.Native.Nat.{ℕ, ◌+◌, ◌-◌, ◌*◌, ◌<◌, ◌≤◌}
use mathlib.Core.Path.{◌≡◌, refl, sym, ap, ◌∙◌}
use mathlib.Core.List.{List, [], ◌++◌, append-nil}
use mathlib.Core.Bool.{true, false, true≢false}
use lib.ListN.{length, take, drop, take-append-drop}
use native.Mathlib.Omega.{arith}
use Rattle.slices.specs.Bytes.{put}
use Rattle.trial_said.specs.Word.{Word}
use Rattle.replica.specs.declared.Replica.{Replica}
use Rattle.replica.specs.Replica.{After, Step, over, stop_step}
use Rattle.checks.proofs.Laws.{call_cases}
use Rattle.client_invoke.specs.Invoke.{invoke_no, invoke_step}
use Rattle.server.specs.declared.Server.{Server}
use Rattle.trial_core.specs.declared.Lines.{Lines}
use Rattle.trial_core.proofs.Laws.{move_same}
use Rattle.trial_core.specs.Trial.{Offering, Move, is_success, told_word, kept_invoke, offer, invoked_move, stopped_move, invoke_move}
use Rattle.trial_core.specs.Moves.{lent_of}
use Rattle.trial_offer.proofs.Parts.{over_fits, part_over, part_length}

put_none : (s : List ℕ) (at : ℕ) → put s at [] ≡ s
put_none s at = let e : at + 0 ≡ at = omega arith in rw (append-nil (take at s), e) (take-append-drop at s)

-- a call that is no success writes nothing
stopped-wrote : (r : Replica) (kind cell amount room : ℕ) → is_success (invoke_step r kind cell amount 0 room).after.says ≡ false → (invoke_step r kind cell amount 0 room).wrote ≡ []
unfolding invoke_step
stopped-wrote r kind cell amount room =
    call_cases (λ (q : Step). is_success q.after.says ≡ false → q.wrote ≡ []) (invoke_no r kind cell amount 0 room) _ (stop_step r (invoke_no r kind cell amount 0 room))
    (λ e f. absurd (true≢false f))
    (λ f. refl)

module _ (r : Replica) (s : Server) (l : Lines) (i kind cell amount : ℕ) (log replies invokes : List ℕ) (h : i < 8) (z : length invokes ≡ 344) (y : List ℕ) (k : ℕ) (hk : k ≡ 43) where
  abbrev part : List ℕ
  part = take k (drop (i * 43) invokes)

  abbrev call : Step
  call = invoke_step r kind cell amount 0 (length part)

  abbrev q : Step
  q = invoke_step r kind cell amount 0 43

  abbrev back : List ℕ
  back = take (i * 43) invokes ++ (y ++ drop k (drop (i * 43) invokes))

  module _ (ey : y ≡ over call.wrote part) (ly : length y ≡ length part) {a : After} (ea : a ≡ call.after) where
    room : length part ≡ k
    room = part_length invokes (i * 43) k (omega arith)

    call_is : call ≡ q
    call_is = ap (λ (x : ℕ). invoke_step r kind cell amount 0 x) (room ∙ hk)

    after_is : a ≡ q.after
    after_is = ea ∙ ap (λ (x : Step). x.after) call_is

    back_is : back ≡ put invokes (i * 43) q.wrote
    back_is =
        let f : length call.wrote ≤ length part = over_fits call.wrote part (sym (ap length ey) ∙ ly) in
        part_over invokes call.wrote y (i * 43) k (omega arith) (omega (arith, room)) ey
        ∙ ap (λ (x : Step). put invokes (i * 43) x.wrote) call_is

    pub invoke_goes : is_success a.says ≡ true → {o : Offering} → o ≡ offer s l i (kept_invoke back i) replies
        → ◌≡◌ {A = Move} (record { replica = a.replica; server = o.server; lines = o.lines; word = o.word; log = log; replies = o.replies; invokes = back })
        (invoke_move r s l i kind cell amount (lent_of log replies invokes))
    unfolding invoke_move invoked_move
    invoke_goes t {o} eo =
        let u : is_success q.after.says ≡ true = ap (λ (x : After). is_success x.says) (sym after_is) ∙ t in
        let m : kept_invoke back i ≡ kept_invoke (put invokes (i * 43) q.wrote) i = ap (λ (x : List ℕ). kept_invoke x i) back_is in
        let g : o ≡ offer s l i (kept_invoke (put invokes (i * 43) q.wrote) i) replies = eo ∙ ap (λ (x : List ℕ). offer s l i x replies) m in
        rw u
        (move_same (ap (λ (x : After). x.replica) after_is) (ap (λ (x : Offering). x.server) g) (ap (λ (x : Offering). x.lines) g) (ap (λ (x : Offering). x.word) g) refl (ap (λ (x : Offering). x.replies) g) back_is)

    pub invoke-stops : is_success a.says ≡ false → {w : Word} → w ≡ told_word a.says
        → ◌≡◌ {A = Move} (record { replica = a.replica; server = s; lines = l; word = w; log = log; replies = replies; invokes = back })
        (invoke_move r s l i kind cell amount (lent_of log replies invokes))
    unfolding invoke_move stopped_move
    invoke-stops t {w} ew =
        let u : is_success q.after.says ≡ false = ap (λ (x : After). is_success x.says) (sym after_is) ∙ t in
        let n : back ≡ invokes = back_is ∙ ap (λ (x : List ℕ). put invokes (i * 43) x) (stopped-wrote r kind cell amount 43 u) ∙ put_none invokes (i * 43) in
        rw u (move_same (ap (λ (x : After). x.replica) after_is) refl refl (ew ∙ ap (λ (x : After). told_word x.says) after_is) refl refl n)
