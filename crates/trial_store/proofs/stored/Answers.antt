use mathlib.Core.Path.{refl}
use Rattle.trial_core.specs.Moves.{move_of}
use Rattle.trial_store.proofs.Laws.{client_low, client_index, move-line}
use Rattle.trial_store.proofs.stored.Goals as goal

pub overflow_sub-i : goal.overflow_sub-i
overflow_sub-i c = (client_low c.args.van c.requires).0

pub returns : goal.returns
returns c = λ b. move-line c.args.t c.args.van c.requires (move_of c.args.m b) refl
