-- Internal: what the code of an offer hands back, as the definitions have it.
use Rattle.std.specs.Prelude.{ℕ, List}
use Rattle.trial_said.specs.Word.{word_of, empty}
use Rattle.server.specs.declared.Server.{Server}
use Rattle.trial_core.specs.declared.Lines.{Lines}
use Rattle.trial_core.specs.Trial.{Offering, offer_one, offer_to}
use Rattle.trial_offer.specs.declared.Offered.{Offered}
use Rattle.trial_offer.specs.declared.Again.{Again}

-- an offer and the replies after it
abbrev pub offering_of : Offered → List ℕ → Offering
offering_of q replies = record { server = q.server; lines = q.lines; word = word_of q.said; replies = replies }

-- an offer without its word, which is not printed where it is made again
abbrev pub unsaid : Offering → Offering
unsaid o = record { server = o.server; lines = o.lines; word = empty; replies = o.replies }

abbrev pub again_offering : Again → List ℕ → Offering
again_offering q replies = record { server = q.server; lines = q.lines; word = empty; replies = replies }

unfoldable pub offered_one : Server → Lines → ℕ → List ℕ → List ℕ → Offering
offered_one s l i replies invokes = unsaid (offer_one (record { server = s; lines = l; word = empty; replies = replies }) i invokes)

unfoldable pub offered_to : ℕ → Server → Lines → List ℕ → List ℕ → Offering
offered_to n s l replies invokes = unsaid (offer_to n s l replies invokes)
