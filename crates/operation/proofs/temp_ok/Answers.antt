use borrow.Author.Rules.{rules}
use Rattle.operation.proofs.Signed.{temp-bytes}
use Rattle.operation.proofs.temp_ok.Goals as goal

pub returns : goal.returns
returns c = temp-bytes c.args.b (search rules)
