use Rattle.server_invoke.proofs.Laws.{reply-parts}
use mathlib.Core.Path.{◌≡◌}
use Prim.Native.Nat.{ℕ, ◌<◌, ◌-◌, ◌*◌}
use lib.ListN.{get_or}
use native.Mathlib.Omega.{arith}
use Rattle.server_invoke.proofs.write_items.Goals as goal

pub returns : goal.returns
returns c =
    let a = c.args in
    let b : (j : ℕ) → get_or a.items.now j 0 < 256 = λ j. omega (arith, c.type_inv.items j) in
    let h : a.n * 41 - 0 ≡ a.n * 41 = omega arith in
    rw (c.copy_to-3.ensures, c.copy_to-2.ensures, c.copy_to.ensures, h) (reply-parts a.out.now a.items.now a.n b (omega arith))
