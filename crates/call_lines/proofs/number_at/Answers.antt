use Prim.Native.Nat.{ℕ, ◌≤◌}
use mathlib.Core.Path.{subst, sym, ap, ◌∙◌}
use Rattle.std.specs.Prelude.{unwrap_or}
use Rattle.text.proofs.Laws.{number-most, within-or}
use Rattle.call_lines.proofs.number_at.Goals as goal

pub returns : goal.returns
returns c =
    let e = c.unwrap_or.ensures ∙ ap (λ o. unwrap_or o c.args.cap) c.number.ensures ∙ within-or _ _ in
    subst (λ (n : ℕ). n ≤ c.args.cap) (sym e) (number-most _ _)
