use Rattle.std.proofs.Common.{ℕ, ◌≡◌, ap, sym, ◌∙◌, take, arith, rules}
use Rattle.std.specs.Prelude.{is_none}
use Rattle.meter_log_told.specs.Told.{tell_last}
use Rattle.meter_log_parts.specs.Whole.{held_of}
use Rattle.meter_log_parts.proofs.Laws.{held_none, held-some, ended_none, ended_over, ended_last}
use Rattle.meter_log_parts.proofs.tell_end.Goals as goal

pub returns-in-None : goal.returns-in-None
returns-in-None g c = ended_over _ _ _ (ap is_none c.in-None.is) c.tell_long-long.ensures c.tell_one.ensures

pub returns-in-Some-eq0 : goal.returns-in-Some-eq0
returns-in-Some-eq0 g c =
    let z : c.in-Some-eq0.field-0 ≡ 0 = search rules in
    ended_none _ _ _ (search rules) (ap is_none c.in-Some-eq0.is) (held_none _ _ (ap held_of c.in-Some-eq0.is ∙ z))

pub returns-in-Some : goal.returns-in-Some
returns-in-Some g c =
    let e : held_of c.args.kept ≡ c.in-Some.held = ap held_of c.in-Some.is in
    let t = c.tell_last-last.ensures ∙ ap (λ (i : ℕ). tell_last c.args.state.log (take i c.args.buf.now)) (sym e) in
    let n : c.in-Some.held ≡ 0 → ⊥ = search rules in
    ended_last _ _ _ (ap is_none c.in-Some.is) (held-some _ _ c.requires.0 (λ z. n (sym e ∙ z))) t c.tell_one-in-Some.ensures
