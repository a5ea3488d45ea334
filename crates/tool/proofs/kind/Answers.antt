use Rattle.std.proofs.Common.{◌∙◌, rules}
use Rattle.tool.proofs.Laws.{same_by, kind_help, kind_input, kind_unknown, kind_none, kind_file}
use Rattle.tool.proofs.kind.Goals.{else-not-is_empty-via-then-not-is_empty+else-arg-eq45, else-not-is_empty-via-else-not-is_empty}
use Rattle.tool.proofs.kind.Goals as goal

pub returns-then-eq : goal.returns-then-eq
returns-then-eq c = kind_help _ (same_by _ _ _ _ c.eq.ensures c.as_slice.ensures ∙ c.if-eq.true)

pub returns-then-eq-2 : goal.returns-then-eq-2
returns-then-eq-2 c = kind_input _ (same_by _ _ _ _ c.eq.ensures c.as_slice.ensures ∙ c.if-eq.false) (same_by _ _ _ _ c.eq-2.ensures c.as_slice-2.ensures ∙ c.if-eq-2.true)

pub returns-then-arg-eq45 : goal.returns-then-arg-eq45
returns-then-arg-eq45 c = kind_unknown _ (same_by _ _ _ _ c.eq.ensures c.as_slice.ensures ∙ c.if-eq.false) (same_by _ _ _ _ c.eq-2.ensures c.as_slice-2.ensures ∙ c.if-eq-2.false) c.if-arg-eq45.true

pub returns : goal.returns
returns c =
    let h = same_by _ _ _ _ c.eq.ensures c.as_slice.ensures ∙ c.if-eq.false in
    let i = same_by _ _ _ _ c.eq-2.ensures c.as_slice-2.ensures ∙ c.if-eq-2.false in
    elim c.else-not-is_empty.branch [
      | else-not-is_empty-via-then-not-is_empty+else-arg-eq45 w ↦ kind_file _ h i w.if-arg-eq45.false
      | else-not-is_empty-via-else-not-is_empty w ↦ kind_none _ (search rules)
    ]
