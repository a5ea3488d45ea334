use Rattle.client_reply.specs.Reply.{commit_message}
use Rattle.client_commit.proofs.write_own_commit.Goals as goal

pub returns : goal.returns
unfolding commit_message
returns c = rw (c.write_commit.ensures, c.commit_tag_by-tag.ensures _ c.requires.2, c.value_at-digest.ensures, c.status_of-status.ensures)
