-- A line of input: what the code's parts come to. Assumes nothing.
use Prim.Native.Nat.{ℕ, ◌-◌}
use mathlib.Core.Path.{◌≡◌, refl, ap, ◌∙◌}
use mathlib.Core.List.{List}
use mathlib.Core.Bool.{true, false}
use lib.ListN.{set}
use Rattle.trial_words.specs.Words.{Asked, invoke, deliver, other}
use Rattle.trial_said.specs.Word.{empty, bad}
use Rattle.replica.specs.declared.Replica.{Replica}
use Rattle.server.specs.declared.Server.{Server}
use Rattle.trial_core.specs.declared.Lines.{Lines}
use Rattle.trial_core.specs.declared.Trial.{Trial}
use Rattle.trial_core.specs.Trial.{Offering, Move, Lent, LineStep, is_client, deliver_move, moved, unmoved, replica_of, again_of, again_trial, again_lent, command_step, line_step}
use Rattle.trial_offer.specs.Offers.{offered_to}
use Rattle.trial_core.specs.Moves.{lent_of}
use Rattle.trial_store.specs.Step.{trial_with}
use Rattle.trial_store.proofs.Laws.{move-line}

pub line-deliver : (t : Trial) (n : ℕ) (e : is_client n ≡ true) (b : Lent) {m : Move} → m ≡ deliver_move (replica_of t (n - 1)) t.server t.lines (n - 1) b
    → moved t (n - 1) m ≡ command_step t b (deliver n)
unfolding command_step
line-deliver t n e b em = rw e (ap (λ (x : Move). moved t (n - 1) x) em)

-- ---- a line of another form
module _ (t : Trial) (n : ℕ) (e : is_client n ≡ false) (b : Lent) where
  pub bad-invoke : (kind cell amount : ℕ) → unmoved t b 0 bad ≡ command_step t b (invoke n kind cell amount)
  unfolding command_step
  bad-invoke kind cell amount = rw e

  pub bad-deliver : unmoved t b 0 bad ≡ command_step t b (deliver n)
  unfolding command_step
  bad-deliver = rw e

pub bad_other : (t : Trial) (b : Lent) → unmoved t b 0 bad ≡ command_step t b other
unfolding command_step
bad_other t b = refl

-- ---- offering again
module _ (t : Trial) (b : Lent) {s : Server} {l : Lines} {now : List ℕ}
    (e : ◌≡◌ {A = Offering} (record { server = s; lines = l; word = empty; replies = now }) (offered_to 8 t.server t.lines b.replies b.invokes)) where
  pub again_trial_lem : trial_with t.replicas s l ≡ again_trial t (again_of t b)
  unfolding offered_to again_of again_trial
  again_trial_lem = ap (λ (o : Offering). trial_with t.replicas o.server o.lines) e

  pub again_lent_lem : lent_of b.log now b.invokes ≡ again_lent b (again_of t b)
  unfolding offered_to again_of again_lent
  again_lent_lem = ap (λ (o : Offering). lent_of b.log o.replies b.invokes) e

pub again_line : (t : Trial) (b : Lent) (a : Asked) {u : Trial} {now : Lent}
    → u ≡ again_trial t (again_of t b) → now ≡ again_lent b (again_of t b)
    → command_step u now a ≡ line_step t b a
unfolding line_step
again_line t b a eu en = rw (eu, en)
