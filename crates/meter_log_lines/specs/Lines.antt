-- Lines of a log and what is printed for them, one after the other.
use Rattle.std.specs.Prelude.{ℕ, ◌+◌, ◌≤◌, ◌<◌, ◌≡◌, List, [], ◌∷◌, ◌++◌, ◌⊎◌, length, take, drop}
use Rattle.text.specs.Text.{cut}
use Rattle.meter_log_told.specs.declared.Log.{Log}
use Rattle.meter_log_told.specs.declared.LogStep.{LogStep}
use Rattle.meter_log_told.specs.Told.{tell_whole}
use Rattle.meter_log_put.specs.Text.{told_bytes}
use Rattle.meter_log_lines.specs.declared.TextTold.{TextTold}

-- the program between two lines: the log, how many lines there were, and what was printed
pub record Run : Type 0 where
  pub log : Log
  pub number : ℕ
  pub printed : List ℕ

-- a line more: it is printed with its number
abbrev pub advance : Run → LogStep → Run
advance w s = record { log = s.log; number = w.number + 1; printed = w.printed ++ told_bytes (w.number + 1) s.told }

-- the bytes of lines, each before its line feed
unfoldable pub run_whole : Run → List (List ℕ) → Run
run_whole w [] = w
run_whole w (p ∷ ps) = run_whole (advance w (tell_whole w.log p)) ps

-- the first lines of a text were told, the first as line n + 1, into the front of `out`
pub record Tells (g : Log) (n : ℕ) (text out : List ℕ) (r : TextTold) (out' : List ℕ) : Type 0 where
  pub told : List (List ℕ)
  -- `used` is the place after them, and each has at least its line feed
  pub pieces : cut 10 text ≡ told ++ cut 10 (drop r.used text)
  pub within : r.used ≤ length text
  pub each : r.count ≤ r.used
  -- the log after them, their count, and what is printed, in their order
  pub run :
      ◌≡◌ {A = Run} (record { log = r.log; number = n + r.count; printed = take r.filled out' })
      (run_whole (record { log = g; number = n; printed = [] }) told)
  pub room : r.filled ≤ length out
  pub rest : drop r.filled out' ≡ drop r.filled out
  -- no whole line is left, or less room than a line may need
  pub ends : (cut 10 (drop r.used text) ≡ drop r.used text ∷ []) ⊎ (length out < r.filled + 64)
  -- where none was told nothing is written
  pub some : r.used ≡ 0 → r.filled ≡ 0
