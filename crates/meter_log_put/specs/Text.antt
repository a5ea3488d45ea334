-- What the log program prints for a line.
use Rattle.std.specs.Prelude.{ℕ, List, [], ◌∷◌, ◌++◌}
use Rattle.text.specs.Text.{decimal_of}
use Rattle.text_put.specs.Datum.{datum, signed_datum}
use Rattle.operation.specs.declared.Operation.{Operation}
use Rattle.operation.specs.Operation.{signed}
use Rattle.meter_log.specs.Reading.{refusal_no}
use Rattle.meter_log_told.specs.declared.LineTold.{LineTold}
use Rattle.meter_log_told.specs.declared.LineTold.TheVariants as T

-- kind, cell, amount and temperature
unfoldable pub op_text : Operation → List ℕ
op_text e = decimal_of e.kind ++ datum e.cell ++ datum e.amount ++ signed_datum (signed e.last)

-- `header`, the operation, `no` and the number, `long`
unfoldable pub told_text : LineTold → List ℕ
told_text T.Header = 104 ∷ 101 ∷ 97 ∷ 100 ∷ 101 ∷ 114 ∷ []
told_text (T.Made e) = op_text e
told_text (T.Refused why) = (110 ∷ 111 ∷ []) ++ datum (refusal_no why)
told_text T.Long = 108 ∷ 111 ∷ 110 ∷ 103 ∷ []

-- the line's number, a space, what is told of it, and a line feed
unfoldable pub told_bytes : ℕ → LineTold → List ℕ
told_bytes n d = decimal_of n ++ (32 ∷ []) ++ told_text d ++ (10 ∷ [])
