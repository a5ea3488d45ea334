-- `verify::tag_is` meets its contract: gathered differences are zero exactly if the tags are the same.
-- Assumes nothing.
use mathlib.Core.Path.{ap, ◌∙◌}
use borrow.Author.Rules.{rules}
use Rattle.slices.specs.Bytes.{is_zero}
use Rattle.tag_compare.proofs.Laws.{zero_same}
use Rattle.verify.proofs.tag_is.Goals as goal

pub returns : goal.returns
returns c =
    let a = c.args in
    ap is_zero c.different_bits.ensures ∙ zero_same a.tag a.right (search rules)
