use Rattle.client_invoke.specs.Invoke.{invoke_message}
use Rattle.client_make.proofs.write_own_invoke.Goals as goal

pub returns : goal.returns
unfolding invoke_message
returns c = rw (c.write_invoke.ensures, c.invoke_tag-tag.ensures)
