-- What the log program tells of each line.
use Rattle.std.specs.Prelude.{ℕ, List, Bool, cond, length, ltb, Some, None, Ok, Err}
use Rattle.log_lines.specs.Lines.{less_return}
use Rattle.meter_log.specs.declared.Refusal.TheVariants as N
use Rattle.meter_log.specs.Reading.{Header, Reading, header_of, read_line}
use Rattle.meter_log_told.specs.declared.Log.{Log}
use Rattle.meter_log_told.specs.declared.Log.TheVariants as L
use Rattle.meter_log_told.specs.declared.LineTold.{LineTold}
use Rattle.meter_log_told.specs.declared.LineTold.TheVariants as T
use Rattle.meter_log_told.specs.declared.LogStep.{LogStep}

-- ---- a line
unfoldable pub tell_header : Header → LineTold
tell_header (Some c) = T.Header
tell_header None = T.Refused N.Header

unfoldable pub tell_reading : Reading → LineTold
tell_reading (Ok e) = T.Made e
tell_reading (Err why) = T.Refused why

-- a line of the log, and the log after it: the first is the header, and the later ones are read under it
unfoldable pub tell_line : Log → List ℕ → LogStep
tell_line L.Start l = record { log = L.Under (header_of l); told = tell_header (header_of l) }
tell_line (L.Under h) l = record { log = L.Under h; told = tell_reading (read_line h l) }
tell_line L.Long l = record { log = L.Long; told = T.Long }

-- a line of more bytes than the program takes; under a first line that is one, no line can be read
unfoldable pub tell_long : Log → LogStep
tell_long L.Start = record { log = L.Long; told = T.Long }
tell_long (L.Under h) = record { log = L.Under h; told = T.Long }
tell_long L.Long = record { log = L.Long; told = T.Long }

-- ---- the bytes p of a line, before its line feed or the end of the input
-- the most that a line may have, its carriage return counted
abbrev pub line_limit : ℕ
line_limit = 65535

abbrev pub is_long : List ℕ → Bool
is_long p = ltb line_limit (length p)

unfoldable pub tell_whole : Log → List ℕ → LogStep
tell_whole g p = cond (is_long p) (tell_long g) (tell_line g (less_return p))

unfoldable pub tell_last : Log → List ℕ → LogStep
tell_last g p = cond (is_long p) (tell_long g) (tell_line g p)
