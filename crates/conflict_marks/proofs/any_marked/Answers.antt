-- Whether one of the first k places from `at` on is marked.
use Prim.Native.Nat.{ℕ, ◌<◌, ◌+◌}
use mathlib.Core.Path.{◌≡◌, refl, sym, ◌∙◌}
use mathlib.Core.Bool.{Bool, true, false, ◌||◌}
use mathlib.Core.List.{List}
use native.Mathlib.Decide.{ℕ_discrete}
use native.Mathlib.Omega.{arith}
use lib.ListN.{get_or}
use Rattle.conflict_marks.specs.Marks.{Has}
use Rattle.conflict_marks.proofs.Stored.{Seen, clash}
use Rattle.conflict_marks.proofs.any_marked.Goals as goal

seen_more : (p : List Bool) (at k : ℕ) (b : Bool) → Seen p at k b → (m : Bool) → get_or p (at + k) false ≡ m → Seen p at (k + 1) (b || m)
seen_more p at k true s m q = record { only = λ e. let r = s.only e in (r.0, omega (arith, r.1), r.2); all = λ i l o. refl }
seen_more p at k false s m q = record { only = λ e. (k, omega arith, q ∙ e); all = λ i l o. last i l o (ℕ_discrete i k) }
  where
    last : (i : ℕ) → i < k + 1 → Has p (at + i) → Dec (i ≡ k) → m ≡ true
    last i l o (yes e) = sym q ∙ (rw e at o)
    last i l o (no n) = absurd (clash refl (s.all i (omega arith) o))

pub loop-k-init : goal.loop-k-init
loop-k-init c = record { only = λ e. absurd (clash refl e); all = λ i l. absurd (omega arith) }

pub loop-k-preserved : goal.loop-k-preserved
loop-k-preserved c =
    let l = c.loop-k in
    let a = c.args in
    seen_more a.wide.now a.at l.k l.found l.invariant (get_or a.wide.now (a.at + l.k) false) refl

pub returns : goal.returns
returns c =
    let l = c.loop-k in
    (λ q. let r = l.invariant.only q in (r.0, omega (arith, r.1), r.2), λ (i, h, o). l.invariant.all i (omega (arith, h)) o)
