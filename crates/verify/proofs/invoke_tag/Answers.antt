use Rattle.verify.proofs.invoke_tag.Goals as goal

pub returns : goal.returns
returns c = c.invoke_tag_by.ensures _ c.key_state.ensures
