-- A move as a result, and a client's number. Assumes nothing.
use Prim.Native.Nat.{ℕ, zero, suc, ◌-◌, ◌<◌, ◌≤◌}
use mathlib.Core.Path.{◌≡◌, refl}
use mathlib.Core.List.{List, [], ◌∷◌}
use mathlib.Core.Bool.{true}
use lib.Dec.{leb}
use lib.ListN.{length, get_or, set}
use native.Mathlib.Omega.{arith}
use borrow.Author.Tests.{leb-true}
use Rattle.trial_said.specs.Word.{Word}
use Rattle.checks.proofs.Laws.{and_yes}
use Rattle.trial_core.specs.declared.Trial.{Trial}
use Rattle.trial_core.specs.Trial.{Move, Lent, LineStep, is_client, moved, unmoved}
use Rattle.trial_core.specs.Moves.{lent_of}
use Rattle.trial_store.specs.Step.{trial_with}

-- within a list the default does not matter
pub get_d_any : {A : Type 0} (l : List A) (i : ℕ) (d e : A) → i < length l → get_or l i d ≡ get_or l i e
get_d_any [] i d e h = absurd (omega arith)
get_d_any (x ∷ l) zero d e h = refl
get_d_any (x ∷ l) (suc i) d e h = get_d_any l i d e (omega arith)

pub client_low : (n : ℕ) → is_client n ≡ true → (1 ≤ n) × (n ≤ 8)
client_low n e = let y = and_yes (leb 1 n) (leb n 8) e in (leb-true 1 n y.0, leb-true n 8 y.1)

-- the index of a client
pub client_index : (n : ℕ) → is_client n ≡ true → n - 1 < 8
client_index n e = let y = client_low n e in omega (arith, y.0, y.1)

line_same : {t u : Trial} {a b : Lent} {n m : ℕ} {v w : Word} → t ≡ u → a ≡ b → n ≡ m → v ≡ w
    → ◌≡◌ {A = LineStep} (record { trial = t; lent = a; van = n; word = v }) (record { trial = u; lent = b; van = m; word = w })
line_same et ea en ew = rw (et, ea, en, ew)

-- a move as a result
pub move-line : (t : Trial) (n : ℕ) (e : is_client n ≡ true) (m : Move) {k : Trial} → k ≡ trial_with (set t.replicas (n - 1) m.replica) m.server m.lines
    → ◌≡◌ {A = LineStep} (record { trial = k; lent = lent_of m.log m.replies m.invokes; van = n; word = m.word }) (moved t (n - 1) m)
unfolding moved
move-line t n e m ek = let y = client_low n e in line_same ek refl (omega (arith, y.0)) refl

pub unmoved_is : (t : Trial) (b : Lent) (n : ℕ) (w : Word) → ◌≡◌ {A = LineStep} (record { trial = t; lent = b; van = n; word = w }) (unmoved t b n w)
unfolding unmoved
unmoved_is t b n w = refl
