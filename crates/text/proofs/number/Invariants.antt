use mathlib.Core.Path.{◌≡◌}
use lib.ListN.{drop}
use Rattle.text.specs.Text.{number_within}
use Rattle.text.proofs.Laws.{rest_of}
use Rattle.text.proofs.number.Given as goal

abbrev pub invariant-loop-d : goal.invariant-loop-d
invariant-loop-d l = number_within l.max l.s ≡ rest_of l.max l.v (drop l.d-index l.s)
