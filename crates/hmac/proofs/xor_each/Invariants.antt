use Rattle.std.proofs.Common.{◌≡◌, ◌++◌, take, drop}
use Rattle.hmac.specs.Hmac.{xored}
use Rattle.hmac.proofs.xor_each.Given as goal

abbrev pub invariant-loop-y : goal.invariant-loop-y
invariant-loop-y l = l.y-items ≡ xored l.x (take l.y-index l.fn.b) ++ drop l.y-index l.fn.b
