use mathlib.Core.Path.{refl}
use native.Mathlib.Omega.{arith}
use Rattle.conflict_marks.proofs.Stored.{clash}
use Rattle.conflict_rows.proofs.any_seen.Goals as goal

pub returns-then-at-eq0 : goal.returns-then-at-eq0
returns-then-at-eq0 c =
    let blank = c.requires.1 in
    (λ e. absurd (clash refl e), λ (k, h, o). absurd (omega (arith, (blank.middle _ o).0, h, c.if-at-eq0.true)))

pub returns-then-none_above : goal.returns-then-none_above
returns-then-none_above c =
    let blank = c.requires.1 in
    (λ e. absurd (clash refl e), λ (k, h, o). absurd (omega (arith, (blank.middle _ o).1, c.if-none_above.true)))

pub returns : goal.returns
returns c = c.any_marked.ensures
