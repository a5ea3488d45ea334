-- Every public call on a replica keeps check 8 and the lengths of its arrays, whatever it is given and however it ends. Assumes nothing.
use Prim.Native.Nat.{ℕ}
use mathlib.Core.List.{List}
use Rattle.message.specs.Message.{is_reply}
use Rattle.checks.proofs.Laws.{cond_cases}
use Rattle.replica.specs.declared.Replica.{Replica}
use Rattle.replica.specs.Replica.{Step}
use Rattle.replica.proofs.Laws.{Sound}
use Rattle.client_invoke.specs.Invoke.{invoke_step}
use Rattle.client.specs.Receive.{receive_step}
use Rattle.client_laws.proofs.Invoke.{invoke-sound}
use Rattle.client_laws.proofs.Broadcast.{broadcast-sound}
use Rattle.client_laws.proofs.Reply.{reply-sound}

pub receive-sound : (r : Replica) (m : List ℕ) (room : ℕ) → Sound r → Sound (receive_step r m room).after.replica
unfolding receive_step
receive-sound r m room s =
    cond_cases (λ (x : Step). Sound x.after.replica) (is_reply m) _ _ (λ e. reply-sound r m room s) (λ e. broadcast-sound r m s)

-- invoking and taking a message (a successful opening: `open_sound`; a refused one leaves the all-zero replica, which check 8 refuses)
pub calls_sound : (r : Replica) → Sound r
    → ((kind cell amount last room : ℕ) → Sound (invoke_step r kind cell amount last room).after.replica)
    × ((m : List ℕ) (room : ℕ) → Sound (receive_step r m room).after.replica)
calls_sound r s = (λ kind cell amount last room. invoke-sound r kind cell amount last room s, λ m room. receive-sound r m room s)
