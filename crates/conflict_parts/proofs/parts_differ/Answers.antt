use Rattle.std.proofs.Common.{refl, sym, ◌∙◌}
use Rattle.conflict_numbers.specs.Numbers.{changed, answered}
use Rattle.conflict_parts.specs.Parts.{is_temps, parts_of}
use Rattle.conflict_marks.proofs.Stored.{clash}
use Rattle.conflict_numbers.proofs.Parts.{untouched_own, untouched_other}
use Rattle.conflict_parts.proofs.parts_differ.Goals as goal

pub returns-then-count-eq0 : goal.returns-then-count-eq0
returns-then-count-eq0 c =
    let a = c.args in (
      (λ e. absurd (clash refl e)),
      λ d. absurd (untouched_own changed answered a.numbers (parts_of (is_temps a.part) a.others.now) (parts_of (is_temps a.part) a.own.now) (sym c.count.ensures.0 ∙ c.if-count-eq0.true) d),
    )

pub returns-then-count-eq0-2 : goal.returns-then-count-eq0-2
returns-then-count-eq0-2 c =
    let a = c.args in (
      (λ e. absurd (clash refl e)),
      λ d. absurd (untouched_other changed answered a.numbers (parts_of (is_temps a.part) a.others.now) (parts_of (is_temps a.part) a.own.now) (sym c.count-2.ensures.0 ∙ c.if-count-eq0-2.true) d),
    )
