-- What the clients' calls of a trial come to. Assumes nothing.
use Prim.Native.Nat.{ℕ, ◌+◌}
use mathlib.Core.Path.{◌≡◌, refl, sym, ◌∙◌}
use mathlib.Core.Logic.{◌⊎◌, inl, inr}
use mathlib.Core.List.{List, [], ◌∷◌}
use mathlib.Core.Bool.{Bool, true, false, true≢false}
use lib.Dec.{eqb}
use lib.ListN.{length, drop}
use borrow.Author.Tests.{eqb-true}
use Rattle.operation.specs.declared.Operation.{Operation}
use Rattle.operation.specs.Operation.{Response}
use Rattle.message.specs.declared.Item.{Item}
use Rattle.message.specs.Message.{is_invoke, is_reply, marked, invoke_bytes, reply_count}
use Rattle.message.proofs.Laws.{item_length_lem, invoke_item}
use Rattle.verify.proofs.Laws.{invoke-tag-length}
use Rattle.replica.specs.declared.Replica.{Replica}
use Rattle.replica.specs.Outcome as O
use Rattle.replica.specs.Outcome.{Told}
use Rattle.replica.specs.Replica.{After, Step, stop, stop_step, no_current}
use Rattle.replica.proofs.Laws.{stop_tells}
use Rattle.checks.proofs.Laws.{cond_cases, all_yes}
use Rattle.client_invoke.specs.Invoke.{new_op, invoke_checks, invoke_no, invoke_message, invoke_step}
use Rattle.client_broadcast.specs.Broadcast.{broadcast_no, broadcast_step}
use Rattle.client_reply_check.specs.ReplyChecks.{reply_no}
use Rattle.client_reply.specs.Reply.{reply_success, reply_step, replied_replica, commit_message, chain_after, is_aborted, says_of}
use Rattle.client.specs.Receive.{receive_step}
use Rattle.progress.specs.HonestRuns as H
use Rattle.progress.specs.HonestRuns.{World, Line, written, rest}
use Rattle.progress.proofs.Calls.{Success}
use Rattle.progress.proofs.Written.{written-invoke, written_commit, commit_no_invoke}
use Rattle.trial_core.specs.Trial.{is_success, told_word}
use Rattle.trial_laws.specs.TrialRuns.{sent, invoked_word}

-- ---- a success
success_yes : (t : Told) → Success t → is_success t ≡ true
success_yes O.opened s = refl
success_yes (O.invoked n) s = refl
success_yes (O.responded n x) s = refl
success_yes (O.aborted n) s = refl
success_yes (O.confirmed n x) s = refl
success_yes (O.refused n) s = absurd s
success_yes (O.halted n) s = absurd s

success_rest : (t : Told) (l : Line) → Success t → rest t l ≡ drop 1 l
unfolding rest
success_rest O.opened l s = refl
success_rest (O.invoked n) l s = refl
success_rest (O.responded n x) l s = refl
success_rest (O.aborted n) l s = refl
success_rest (O.confirmed n x) l s = refl
success_rest (O.refused n) l s = absurd s
success_rest (O.halted n) l s = absurd s

stop_fails : (r : Replica) (n : ℕ) → Success (stop r n).says → ⊥
stop_fails r n = stop_tells r n (λ (t : Told). Success t → ⊥) (λ s. s) (λ s. s)

-- ---- an invoke is written
pub record Invoking (r : Replica) (q : Step) : Type 0 where
  pub idle : no_current r.current ≡ true
  pub says : (k : ℕ) × (q.after.says ≡ O.invoked k)
  pub form : is_invoke q.wrote ≡ true
  pub one : written q.wrote ≡ q.wrote ∷ []

invoke_form : (i : Item) → length i.tag ≡ 32 → is_invoke (invoke_bytes i) ≡ true
unfolding is_invoke marked
invoke_form i l = rw (invoke_item i, item_length_lem i l)

message_form : (r : Replica) (e : Operation) → is_invoke (invoke_message r e) ≡ true
unfolding invoke_message
message_form r e = invoke_form _ (invoke-tag-length r.keys e r.number)

no_current_of : (r : Replica) (kind cell amount last room : ℕ) → invoke_no r kind cell amount last room ≡ 0 → no_current r.current ≡ true
unfolding invoke_no
no_current_of r kind cell amount last room z = (all_yes 0 (invoke_checks r kind cell amount last room) (refl, (refl, (refl, (refl, (refl, (refl, tt)))))) z).1.1.1.0

-- a call that a check stopped
pub record Stopping (q : Step) : Type 0 where
  pub no_told : is_success q.after.says ≡ false
  pub sent_told : (n room : ℕ) → sent n room q.after.says ≡ []
  pub word_told : (w : World) (n : ℕ) → invoked_word w n q.after.says ≡ told_word q.after.says
  pub none : q.wrote ≡ []

stopping : (r : Replica) (k : ℕ) → Stopping (stop_step r k)
unfolding sent invoked_word
stopping r k =
    record {
      no_told = stop_tells r k (λ (t : Told). is_success t ≡ false) refl refl;
      sent_told = λ n room. stop_tells r k (λ (t : Told). sent n room t ≡ []) refl refl;
      word_told = λ w n. stop_tells r k (λ (t : Told). invoked_word w n t ≡ told_word t) refl refl;
      none = refl;
    }

pub invoke_step_lem : (r : Replica) (kind cell amount last room : ℕ) → Invoking r (invoke_step r kind cell amount last room) ⊎ Stopping (invoke_step r kind cell amount last room)
unfolding invoke_step
invoke_step_lem r kind cell amount last room =
    let x = invoke_no r kind cell amount last room in
    let e = new_op r kind cell amount last in
    cond_cases (λ (q : Step). Invoking r q ⊎ Stopping q) (eqb x 0) _ (stop_step r x)
    (λ t. inl (record { idle = no_current_of r kind cell amount last room (eqb-true x 0 t); says = (r.count + 1, refl); form = message_form r e; one = written-invoke r e }))
    (λ f. inr (stopping r x))

-- ---- a reply is taken
pub record Replying (q : Step) : Type 0 where
  pub yes_told : is_success q.after.says ≡ true
  pub rest_told : (l : Line) → rest q.after.says l ≡ drop 1 l
  pub sent_told : (n room : ℕ) → sent n room q.after.says ≡ H.serve n room ∷ []
  pub other : is_invoke q.wrote ≡ false
  pub one : written q.wrote ≡ q.wrote ∷ []
  pub idle : no_current q.after.replica.current ≡ true

sent-reply : (a : Bool) (x : Response) (seq n room : ℕ) → sent n room (says_of a x seq) ≡ H.serve n room ∷ []
unfolding sent
sent-reply true x seq n room = refl
sent-reply false x seq n room = refl

no_invoke : (r : Replica) (chain : List ℕ) (n : ℕ) (a : Bool) → is_invoke (commit_message r chain n a) ≡ false
unfolding commit_message
no_invoke r chain n a = commit_no_invoke _

replying : (r : Replica) (m : List ℕ) → Success (reply_success r m).after.says → Replying (reply_success r m)
unfolding reply_success replied_replica
replying r m s =
    record {
      yes_told = success_yes (reply_success r m).after.says s;
      rest_told = λ l. success_rest (reply_success r m).after.says l s;
      sent_told = λ n room. sent-reply (is_aborted r m) _ _ n room;
      other = no_invoke r (chain_after r m) (reply_count m) (is_aborted r m);
      one = written_commit r (chain_after r m) (reply_count m) (is_aborted r m);
      idle = refl;
    }

pub reply_step_lem : (r : Replica) (m : List ℕ) (room : ℕ) → is_reply m ≡ true → Success (receive_step r m room).after.says → Replying (receive_step r m room)
unfolding receive_step reply_step
reply_step_lem r m room e =
    let x = reply_no r m room in
    cond_cases (λ (q : Step). Success q.after.says → Replying q) (is_reply m) _ _
    (λ t. cond_cases (λ (q : Step). Success q.after.says → Replying q) (eqb x 0) (reply_success r m) (stop_step r x)
    (λ t s. replying r m s)
    (λ f s. absurd (stop_fails r x s)))
    (λ f. absurd (true≢false (sym e ∙ f)))

-- ---- a broadcast is taken
pub record Confirming (q : Step) : Type 0 where
  pub yes_told : is_success q.after.says ≡ true
  pub rest_told : (l : Line) → rest q.after.says l ≡ drop 1 l
  pub sent_told : (n room : ℕ) → sent n room q.after.says ≡ []
  pub none : q.wrote ≡ []

sent-broadcast : (r : Replica) (m : List ℕ) (n room : ℕ) → Success (broadcast_step r m).says → sent n room (broadcast_step r m).says ≡ []
unfolding broadcast_step sent
sent-broadcast r m n room =
    let x = broadcast_no r m in
    cond_cases (λ (a : After). Success a.says → sent n room a.says ≡ []) (eqb x 0) _ (stop r x) (λ t s. refl) (λ f s. absurd (stop_fails r x s))

confirming : (r : Replica) (m : List ℕ) → Success (broadcast_step r m).says → Confirming (record { after = broadcast_step r m; wrote = [] })
confirming r m s =
    record {
      yes_told = success_yes (broadcast_step r m).says s;
      rest_told = λ l. success_rest (broadcast_step r m).says l s;
      sent_told = λ n room. sent-broadcast r m n room s;
      none = refl;
    }

pub confirm_step : (r : Replica) (m : List ℕ) (room : ℕ) → is_reply m ≡ false → Success (receive_step r m room).after.says → Confirming (receive_step r m room)
unfolding receive_step
confirm_step r m room e =
    cond_cases (λ (q : Step). Success q.after.says → Confirming q) (is_reply m) _ _
    (λ t. absurd (true≢false (sym t ∙ e)))
    (λ f s. confirming r m s)
