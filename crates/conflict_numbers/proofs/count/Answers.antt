use Rattle.std.proofs.Common.{Bool, true, false, cond, ◌≡◌, ◌∙◌, refl, sym, ap, arith, Option, Some, None, is_some, ℕ, ◌+◌, ◌≤◌, ◌<◌, List, [], ◌∷◌, length, take}
use lib.ListN.{get_or, length-append}
use mir.Val.{bool_byte}
use Rattle.operation.specs.declared.Operation.{Operation}
use Rattle.operation.specs.Operation.{no_op}
use Rattle.conflict_numbers.specs.Numbers.{parts}
use Rattle.conflict_numbers.proofs.Parts.{in_take, out_take}
use Rattle.conflict_numbers.proofs.count.Goals as goal

byte_most : (b : Bool) → bool_byte b ≤ 1
byte_most true = omega arith
byte_most false = omega arith

-- One operation more counts just where it passes the test.
module _ (test : Operation → Bool) (part : Operation → Operation) (ops : List Operation) (i n : ℕ) (h : i < length ops) (e : n ≡ length (parts test part (take i ops))) where
  one_more : (b : Bool) (x : Operation) → test (get_or ops i no_op) ≡ b → n + bool_byte (is_some (cond b (Some x) None)) ≡ length (parts test part (take (i + 1) ops))
  one_more true x t =
      let l = length-append (parts test part (take i ops)) (part (get_or ops i no_op) ∷ []) in
      rw (in_take test part ops i h t) (omega (arith, e, l))
  one_more false x t = rw (out_take test part ops i h t) (omega (arith, e))

pub loop-o-init : goal.loop-o-init
unfolding parts
loop-o-init g c = (omega arith, refl)

pub loop-o-preserved : goal.loop-o-preserved
loop-o-preserved g c =
    let l = c.loop-o in
    let a = c.from-n.ensures ∙ ap bool_byte (c.is_some.ensures ∙ ap is_some c.part_of.ensures) in (
      omega (arith, l.invariant.0, c.from-n.ensures, byte_most c.is_some.result),
      ap (λ x. l.n + x) a ∙ one_more (g.V.View.test c.args.view) (g.V.View.part c.args.view) c.args.ops.now l.o-index l.n c.loop-o-test.true l.invariant.1 _ _ refl,
    )
