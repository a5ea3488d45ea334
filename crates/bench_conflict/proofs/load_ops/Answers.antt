use Prim.Native.Nat.{ℕ, ◌<◌, ◌+◌, ◌*◌}
use mathlib.Core.Path.{◌≡◌, sym, ap, ◌∙◌}
use native.Mathlib.Omega.{arith}
use borrow.Author.Rules.{rules}
use native.Mathlib.Numerals.{add-one}
use mathlib.Core.List.{List}
use lib.Seq.{take-suc-set, take_all}
use Rattle.operation.specs.declared.Operation.{Operation}
use Rattle.operation.specs.Operation.{op_at}
use lib.ListN.{length, take, set, length-set}
use Rattle.bench_conflict.specs.Load.{ops_at}
use Rattle.bench_conflict.proofs.load_ops.Goals as goal

more : (s : List ℕ) (l : List Operation) (i : ℕ) (e : Operation) → i < length l → take i l ≡ ops_at s i → e ≡ op_at s (8 * i) → take (i + 1) (set l i e) ≡ ops_at s (i + 1)
unfolding ops_at
more s l i e h p q = rw (add-one i, take-suc-set l i e h, p, q)

pub loop-i-init : goal.loop-i-init
unfolding ops_at
loop-i-init c = search rules

pub loop-i-preserved : goal.loop-i-preserved
loop-i-preserved c =
    let l = c.loop-i in
    (simp length-set l.invariant.0, more c.args.s.now l.ops l.i c.read_op.result (omega (arith, l.invariant.0)) l.invariant.1 c.read_op.ensures)

pub returns : goal.returns
returns c =
    let l = c.loop-i in
    let e : l.i ≡ 32 = omega arith in
    sym (take_all l.i l.ops (omega (arith, l.invariant.0))) ∙ l.invariant.1 ∙ ap (ops_at c.args.s.now) e
