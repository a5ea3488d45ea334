-- What the log program holds of a line that is not yet whole, and what it has told and sent of the bytes that came.
use Rattle.std.specs.Prelude.{ℕ, ◌+◌, ◌-◌, ◌<◌, ◌≤◌, ◌≡◌, List, [], ◌∷◌, ◌++◌, Bool, true, false, is_none, unwrap_or, length, take, drop}
use Rattle.std.specs.declared.option.Option.{Option}
use Rattle.text.specs.Text.{cut}
use Rattle.input.specs.declared.Brought.{Brought}
use Rattle.input.specs.declared.Brought.TheVariants as B
use Rattle.output.specs.declared.Sent.{Sent}
use Rattle.output.specs.Sends.{Sends}
use Rattle.meter_log_told.specs.declared.Log.TheVariants as L
use Rattle.meter_log_told.specs.declared.LogStep.{LogStep}
use Rattle.meter_log_told.specs.Told.{line_limit}
use Rattle.meter_log_put.specs.Text.{told_bytes}
use Rattle.meter_log_lines.specs.Lines.{Run, run_whole}
use Rattle.meter_log_lines.specs.Printed.{run_last}
use Rattle.meter_log_parts.specs.declared.State.{State}

-- the bytes of a buffer from `from` to n
abbrev pub between : List ℕ → ℕ → ℕ → List ℕ
between s from n = take (n - from) (drop from s)

-- how many bytes are held: none of a line that is over-long
abbrev pub held_of : Option ℕ → ℕ
held_of k = unwrap_or k 0

-- what is held stands for the bytes p of a line under way: it is these, or they are over-long and nothing is held
pub data Stands : Bool → List ℕ → List ℕ → Type 0 where
  all : {s p : List ℕ} → s ≡ p → length p ≤ line_limit → Stands false s p
  over : {s p : List ℕ} → s ≡ [] → line_limit < length p → Stands true s p

-- the run that goes on from a state, with what it printed
abbrev pub run_at : State → List ℕ → Run
run_at w printed = record { log = w.log; number = w.number; printed = printed }

-- before the first line nothing was sent
pub record First (w : State) : Type 0 where
  pub log : w.log ≡ L.Start
  pub number : w.number ≡ 0
  pub sent : w.sent.bytes ≡ 0

-- of bytes t after the state w the whole lines were told, and u, which is not one, is left of them
pub record Past (w : State) (t u : List ℕ) (w' : State) : Type 0 where
  pub told : List (List ℕ)
  -- what they print, in their order, and as many bytes were sent
  pub printed : List ℕ
  pub pieces : cut 10 t ≡ told ++ (u ∷ [])
  pub run : run_at w' printed ≡ run_whole (run_at w []) told
  pub sent : Sends w.sent (length printed) w'.sent

-- one line was told, from the front of `out` on
pub record OneMore (w : State) (s : LogStep) (w' : State) (out' : List ℕ) : Type 0 where
  pub log : w'.log ≡ s.log
  pub number : w'.number ≡ w.number + 1
  pub written : take (length (told_bytes (w.number + 1) s.told)) out' ≡ told_bytes (w.number + 1) s.told
  pub sent : Sends w.sent (length (told_bytes (w.number + 1) s.told)) w'.sent

-- of bytes t that came after the state w every whole line was told, and the rest is held in the buffer's front
pub record AllTold (w : State) (t : List ℕ) (w' : State) (k : Option ℕ) (buf' : List ℕ) : Type 0 where
  -- what stands after the last line feed
  pub rest : List ℕ
  pub past : Past w t rest w'
  pub kept : Stands (is_none k) (take (held_of k) buf') rest

-- bytes x came after those of a line under way, for which the bytes s stand: whichever these are, all is told
pub record Came (w : State) (over : Bool) (s x : List ℕ) (w' : State) (k : Option ℕ) (buf' : List ℕ) : Type 0 where
  pub whole : (p : List ℕ) → cut 10 p ≡ p ∷ [] → Stands over s p → AllTold w (p ++ x) w' k buf'
  pub room : held_of k < length buf'

-- the input ended with a line under way, for which the bytes s stand: whichever these are, what is told of it was sent
pub record LastTold (w : State) (over : Bool) (s : List ℕ) (r : Sent) : Type 0 where
  pub last : (p : List ℕ) → Stands over s p → Sends w.sent (length (run_last (run_at w []) p).printed) r

-- only where the input ended is there a last line
pub record Finished (b : Brought) (w : State) (over : Bool) (s : List ℕ) (r : Sent) : Type 0 where
  pub ended : b ≡ B.Ended → LastTold w over s r
  pub not_yet : (b ≡ B.Ended → ⊥) → r ≡ w.sent
