-- What arguments are, what they ask, and how the reading of an input ended.
use Rattle.std.specs.Prelude.{ℕ, ◌≡◌, Bool, true, false, cond, List, [], ◌∷◌, eqb, get_or, Some, None, is_some}
use Rattle.std.specs.declared.option.Option.{Option}
use Rattle.std.specs.declared.io.Error.{Error}
use Rattle.slices.specs.Bytes.{same}
use Rattle.input.specs.declared.Brought.{Brought}
use Rattle.input.specs.declared.Brought.TheVariants as B
use Rattle.tool.specs.declared.Argument.{Argument}
use Rattle.tool.specs.declared.Argument.TheVariants as A
use Rattle.tool.specs.declared.Asks.{Asks}
use Rattle.tool.specs.declared.Asks.TheVariants as Q
use Rattle.tool.specs.declared.Done.{Done}
use Rattle.tool.specs.declared.Why.{Why}
use Rattle.tool.specs.declared.Why.TheVariants as W

-- `--help`; `-` alone (byte 45); another that begins with `-`; or a file's name
unfoldable pub kind_of : List ℕ → Argument
kind_of s =
    cond (same s (45 ∷ 45 ∷ 104 ∷ 101 ∷ 108 ∷ 112 ∷ [])) A.Help
    (cond (same s (45 ∷ [])) A.Input
    (cond (eqb (get_or s 0 0) 45) A.Unknown A.File))

-- an unknown option, unless a later argument asks for the help
unfoldable pub unknown_at : ℕ → Asks → Asks
unknown_at i Q.Help = Q.Help
unknown_at i (Q.Unknown j) = Q.Unknown i
unknown_at i Q.Files = Q.Unknown i

-- what argument i and those after it ask
unfoldable pub first_of : Argument → ℕ → Asks → Asks
first_of A.Help i later = Q.Help
first_of A.Unknown i later = unknown_at i later
first_of A.Input i later = later
first_of A.File i later = later

-- a write that failed comes before what the last read brought
unfoldable pub why_of : Brought → Option Error → Why
why_of b (Some e) = W.WriteFailed (Some e)
why_of B.Some None = W.Ended
why_of B.Ended None = W.Ended
why_of (B.Failed e) None = W.ReadFailed (Some e)
why_of B.Limit None = W.Limit

-- nothing failed, or the cause of it is known
unfoldable pub is_caused : Why → Bool
is_caused W.Ended = true
is_caused (W.ReadFailed e) = is_some e
is_caused (W.WriteFailed e) = is_some e
is_caused W.Limit = true

-- after a write that failed no further input is read
unfoldable pub next_read : Why → Bool
next_read W.Ended = true
next_read (W.ReadFailed e) = true
next_read (W.WriteFailed e) = false
next_read W.Limit = true

-- of runs with these outcomes, on a source that they read from, one ended by a write that failed
abbrev pub WriteFailedIn : {S : Type 0} → (S → Done → S → Type 0) → Type 0
WriteFailedIn {S} post = (s : S) × (d : Done) × (s' : S) × post s d s' × (next_read d.why ≡ false)
