use mathlib.Core.Path.{◌≡◌}
use Rattle.checks.specs.Checks.{first_no}
use Rattle.key_table.specs.KeyTable.{Right}
use Rattle.client_reply_check.specs.ReplyChecks.{items_checks}
use Rattle.client_reply_items.proofs.items_check.Given as goal

abbrev pub invariant-loop-k : goal.invariant-loop-k
invariant-loop-k l = (first_no 0 (items_checks l.r l.m l.k) ≡ 0) × Right l.r.keys l.table
