-- The numbers that a call says fix its outcome: two outcomes that are said alike are one.
-- Assumes nothing.
use mathlib.Core.Path.{◌≡◌, refl, sym, ap, ◌∙◌}
use mathlib.Core.Bool.{cond}
use lib.Dec.{eqb}
use lib.IntN.{nat_abs}
use Rattle.replica.specs.Outcome.{Told, opened, invoked, responded, aborted, confirmed, refused, halted, told}
use Rattle.replica.specs.declared.Outcome.{Outcome}
use Rattle.replica.proofs.Once.{told_once}
use Rattle.server.specs.Server.{ServerTold, placed, broadcast, refused as serverRefused, ServerOutcome, told as serverTold}
use Rattle.server.proofs.Once.{told_once as server-told-once}
use Rattle.cop_said.specs.declared.Said.{Said}
use Rattle.cop_said.specs.Said.{said, server_said}

abbrev heard : Said → Told
heard s =
    cond (eqb s.what 0) (refused s.number) (cond (eqb s.what 1) (halted s.number) (cond (eqb s.what 2) opened
    (cond (eqb s.what 3) (invoked s.first) (cond (eqb s.what 4) (responded s.first s.second)
    (cond (eqb s.what 5) (aborted s.first) (confirmed s.first (nat_abs s.second)))))))

back : (t : Told) → heard (said t) ≡ t
back opened = refl
back (invoked n) = refl
back (responded p a) = refl
back (aborted p) = refl
back (confirmed p s) = refl
back (refused n) = refl
back (halted n) = refl

abbrev server_heard : Said → ServerTold
server_heard s = cond (eqb s.what 7) (placed s.first) (cond (eqb s.what 8) (broadcast s.first) (serverRefused s.number))

server_back : (t : ServerTold) → server_heard (server_said t) ≡ t
server_back (placed p) = refl
server_back (broadcast n) = refl
server_back (serverRefused n) = refl

pub said_once : (o p : Outcome) → said (told o) ≡ said (told p) → o ≡ p
said_once o p e = told_once o p (sym (back (told o)) ∙ ap heard e ∙ back (told p))

pub server_said_once : (o p : ServerOutcome) → server_said (serverTold o) ≡ server_said (serverTold p) → o ≡ p
server_said_once o p e = server-told-once o p (sym (server_back (serverTold o)) ∙ ap server_heard e ∙ server_back (serverTold p))
