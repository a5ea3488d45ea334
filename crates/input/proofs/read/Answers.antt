use Rattle.std.proofs.Common.{refl, arith, rules}
use Rattle.input.specs.Reads.{goes_on}
use Rattle.input.proofs.Laws.{nothing, over, failed_not_limit, ended_not_limit, bytes_over}
use Rattle.input.proofs.read.Goals as goal

pub returns-then-total-buf-clause-reads : goal.returns-then-total-buf-clause-reads
unfolding goes_on
returns-then-total-buf-clause-reads g c = nothing _ _ _ _ _ c.requires refl refl (λ _. omega arith)

pub returns-in-Ok-eq0-clause-reads : goal.returns-in-Ok-eq0-clause-reads
unfolding goes_on
returns-in-Ok-eq0-clause-reads g c = over _ _ _ _ _ c.requires refl ended_not_limit

pub returns-in-Ok-clause-reads : goal.returns-in-Ok-clause-reads
returns-in-Ok-clause-reads g c = bytes_over _ _ _ _ _ (search rules) (search rules) (search rules)

pub returns-in-Err-clause-reads : goal.returns-in-Err-clause-reads
unfolding goes_on
returns-in-Err-clause-reads g c = over _ _ _ _ _ c.requires refl failed_not_limit
