-- A broadcast taken: what the code's parts come to. Assumes nothing.
use Prim.Native.Nat.{ℕ, ◌*◌, ◌%◌}
use mathlib.Core.Path.{◌≡◌, refl, sym, ap, ◌∙◌}
use mathlib.Core.List.{List}
use mathlib.Core.Bool.{true, false}
use lib.ListN.{get_or, take, drop}
use Rattle.trial_said.specs.Word.{Word}
use Rattle.replica.specs.declared.Replica.{Replica}
use Rattle.replica.specs.Replica.{After, Step}
use Rattle.client.specs.Receive.{receive_step}
use Rattle.server.specs.declared.Server.{Server}
use Rattle.trial_core.specs.declared.Lines.{Lines}
use Rattle.trial_core.specs.Trial.{Move, is_success, told_word, without_broadcast, stopped_move, confirmed_move, broadcast_move}
use Rattle.trial_core.specs.Moves.{lent_of}
use Rattle.trial_core.proofs.Laws.{move_same}

module _ (r : Replica) (s : Server) (l : Lines) (i : ℕ) (log replies invokes : List ℕ) (k : ℕ) where
  module _ (hk : k ≡ 80) where
    abbrev heard : Step
    heard = receive_step r (take k (drop (get_or l.next i 0 % 512 * 80) log)) 80

    abbrev due : Step
    due = receive_step r (take 80 (drop (get_or l.next i 0 % 512 * 80) log)) 80

    module _ {a : After} (ea : a ≡ heard.after) {w : Word} (ew : w ≡ told_word a.says) where
      broadcast-after : a ≡ due.after
      broadcast-after = ea ∙ ap (λ (x : ℕ). (receive_step r (take x (drop (get_or l.next i 0 % 512 * 80) log)) 80).after) hk

      broadcast-word : w ≡ told_word due.after.says
      broadcast-word = ew ∙ ap (λ (x : After). told_word x.says) broadcast-after

      pub broadcast_goes : is_success a.says ≡ true → {ln : Lines} → ln ≡ without_broadcast l i
          → ◌≡◌ {A = Move} (record { replica = a.replica; server = s; lines = ln; word = w; log = log; replies = replies; invokes = invokes })
          (broadcast_move r s l i (lent_of log replies invokes))
      unfolding broadcast_move confirmed_move
      broadcast_goes t {ln} el =
          let u : is_success due.after.says ≡ true = ap (λ (x : After). is_success x.says) (sym broadcast-after) ∙ t in
          rw u (move_same (ap (λ (x : After). x.replica) broadcast-after) refl el broadcast-word refl refl refl)

      pub broadcast-stops : is_success a.says ≡ false
          → ◌≡◌ {A = Move} (record { replica = a.replica; server = s; lines = l; word = w; log = log; replies = replies; invokes = invokes })
          (broadcast_move r s l i (lent_of log replies invokes))
      unfolding broadcast_move stopped_move
      broadcast-stops t =
          let u : is_success due.after.says ≡ false = ap (λ (x : After). is_success x.says) (sym broadcast-after) ∙ t in
          rw u (move_same (ap (λ (x : After). x.replica) broadcast-after) refl refl broadcast-word refl refl refl)
