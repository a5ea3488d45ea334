-- Taking any message from the server. Document 01: "Message from the relay: mark `RE` or `BR`, n at most 32 and exact length? 20."
use Rattle.std.specs.Prelude.{ℕ, List, [], cond}
use Rattle.message.specs.Message.{is_reply}
use Rattle.replica.specs.declared.Replica.{Replica}
use Rattle.replica.specs.Replica.{Step}
use Rattle.client_broadcast.specs.Broadcast.{broadcast_step}
use Rattle.client_reply.specs.Reply.{reply_step}

-- a reply is taken as one; any other message as a broadcast, whose check 20 asks for its mark and length
unfoldable pub receive_step : Replica → List ℕ → ℕ → Step
receive_step r m room = cond (is_reply m) (reply_step r m room) (record { after = broadcast_step r m; wrote = [] })
