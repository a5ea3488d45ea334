use Rattle.std.proofs.Common.{Bool, true, false, cond, [], ◌∷◌, ◌++◌, length, take, ◌≡◌, ◌∙◌, refl, ap, sym, arith, Option, Some, None}
use lib.ListN.{length-set}
use Rattle.operation.specs.declared.Operation.{Operation}
use Rattle.conflict_numbers.specs.Numbers.{parts}
use Rattle.conflict_numbers.proofs.Parts.{in_take, out_take, put_more}
use Rattle.conflict_numbers.proofs.gather.Goals as goal
use Rattle.conflict_numbers.proofs.gather.Goals.{in-Some, in_default}

-- What an operation is to a view, or that it is nothing.
taken : (b : Bool) (x p : Operation) (r : Option Operation) → r ≡ cond b (Some x) None → r ≡ Some p → (b ≡ true) × (x ≡ p)
taken true x p r e q = let h : Some x ≡ Some p = sym e ∙ q in (refl, cc)
taken false x p r e q = let h : ◌≡◌ {A = Option Operation} None (Some p) = sym e ∙ q in absurd (grind (arith, h))

passed : (b : Bool) (x : Operation) (r : Option Operation) → r ≡ cond b (Some x) None → r ≡ None → b ≡ false
passed true x r e q = let h : ◌≡◌ {A = Option Operation} (Some x) None = sym e ∙ q in absurd (grind (arith, h))
passed false x r e q = refl

pub loop-e-init : goal.loop-e-init
unfolding parts
loop-e-init g c = (omega arith, refl, refl)

pub loop-e-preserved : goal.loop-e-preserved
loop-e-preserved g c =
    let test = g.V.View.test c.args.view in
    let part = g.V.View.part c.args.view in
    let l = c.loop-e in
    let ops = c.args.ops.now in
    elim c.match-part_of.branch [
      | in-Some w ↦
          let t = taken _ _ _ _ c.part_of.ensures w.in-Some.is in (
            omega (arith, w.count-is, l.invariant.0),
            ap length w.new-is ∙ length-set l.new l.count _ ∙ l.invariant.1,
            rw (w.new-is, w.count-is) (put_more l.new (parts test part (take l.e-index ops)) l.count w.in-Some.p (omega (arith, l.invariant.0, l.invariant.1, c.requires, c.loop-e-test.true)) l.invariant.2
                ∙ ap (λ x. parts test part (take l.e-index ops) ++ (x ∷ [])) (sym t.1) ∙ sym (in_take test part ops l.e-index c.loop-e-test.true t.0)),
          )
      | in_default w ↦ (
        omega (arith, w.count-is, l.invariant.0),
        ap length w.new-is ∙ l.invariant.1,
        rw (w.new-is, w.count-is) (l.invariant.2 ∙ sym (out_take test part ops l.e-index c.loop-e-test.true (passed _ _ _ c.part_of.ensures w.in_default.is))),
      )
    ]
