-- An invoke as a line: what the code's parts come to. Assumes nothing.
use Prim.Native.Nat.{ℕ, ◌-◌}
use mathlib.Core.Path.{◌≡◌, ap}
use mathlib.Core.Bool.{true, false}
use Rattle.trial_words.specs.Words.{invoke}
use Rattle.trial_said.specs.Word.{full}
use Rattle.trial_core.specs.declared.Trial.{Trial}
use Rattle.trial_core.specs.Trial.{Move, Lent, LineStep, is_client, is_full, invoke_move, moved, unmoved, replica_of, command_step}

module _ (t : Trial) (n : ℕ) (e : is_client n ≡ true) (b : Lent) where
  pub line-full : (kind cell amount : ℕ) → is_full t.lines.next t.server.passed 8 ≡ true
      → ◌≡◌ {A = LineStep} (record { trial = t; lent = b; van = n; word = full }) (command_step t b (invoke n kind cell amount))
  unfolding command_step unmoved
  line-full kind cell amount f = rw (e, f)

  pub line-invoke : (kind cell amount : ℕ) → is_full t.lines.next t.server.passed 8 ≡ false
      → {m : Move} → m ≡ invoke_move (replica_of t (n - 1)) t.server t.lines (n - 1) kind cell amount b
      → moved t (n - 1) m ≡ command_step t b (invoke n kind cell amount)
  unfolding command_step
  line-invoke kind cell amount f em = rw (e, f) (ap (λ (x : Move). moved t (n - 1) x) em)
