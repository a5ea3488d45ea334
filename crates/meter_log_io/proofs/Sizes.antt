-- There are no more lines than bytes. Assumes nothing.
use Prim.Native.Nat.{ℕ, suc, ◌+◌, ◌<◌, ◌≤◌}
use mathlib.Core.Path.{◌≡◌, refl, sym, ap, ◌∙◌}
use mathlib.Core.List.{List, [], ◌∷◌, ◌++◌}
use native.Mathlib.Omega.{arith}
use lib.Dec.{eqb}
use lib.ListN.{length}
use Rattle.text.specs.Text.{on_first, cut}
use Rattle.text.proofs.Laws.{either}
use Rattle.meter_log_told.specs.Told.{tell_whole}
use Rattle.meter_log_lines.specs.Lines.{Run, advance, run_whole}
use Rattle.meter_log_parts.specs.declared.State.{State}
use Rattle.meter_log_parts.specs.Whole.{run_at, Past}

-- the bytes of pieces, each with what parts it from the next
unfoldable sizes : List (List ℕ) → ℕ
sizes [] = 0
sizes (p ∷ ps) = suc (length p) + sizes ps

sizes_on : (c : ℕ) (ps : List (List ℕ)) → 0 < sizes ps → sizes (on_first c ps) ≡ suc (sizes ps)
unfolding on_first sizes
sizes_on c [] h = absurd (omega (arith, h))
sizes_on c (p ∷ ps) h = omega arith

sizes_cut : (x : ℕ) (t : List ℕ) → sizes (cut x t) ≡ suc (length t)
unfolding cut sizes
sizes_cut x [] = omega arith
sizes_cut x (c ∷ t) =
    let i = sizes_cut x t in
    either (eqb c x) (λ e. rw e (omega (arith, i))) (λ e. rw e (omega (arith, i, sizes_on c (cut x t) (omega (arith, i)))))

sizes_append : (ps qs : List (List ℕ)) → sizes (ps ++ qs) ≡ sizes ps + sizes qs
unfolding sizes
sizes_append [] qs = omega arith
sizes_append (p ∷ ps) qs = omega (arith, sizes_append ps qs)

sizes_most : (ps : List (List ℕ)) → length ps ≤ sizes ps
unfolding sizes
sizes_most [] = omega arith
sizes_most (p ∷ ps) = omega (arith, sizes_most ps)

sizes_one : (p : List ℕ) → sizes (p ∷ []) ≡ suc (length p)
unfolding sizes
sizes_one p = omega arith

run_number : (w : Run) (ps : List (List ℕ)) → (run_whole w ps).number ≡ w.number + length ps
unfolding run_whole
run_number w [] = omega arith
run_number w (p ∷ ps) = omega (arith, run_number (advance w (tell_whole w.log p)) ps)

pub past-few : {w : State} {t u : List ℕ} {w' : State} → Past w t u w' → w'.number + length u ≤ w.number + length t
past-few {w} {t} {u} y =
    omega (
      arith,
      ap (λ (x : Run). x.number) y.run,
      run_number (run_at w []) y.told,
      sizes_most y.told,
      sizes_append y.told (u ∷ []),
      sizes_one u,
      ap sizes y.pieces,
      sizes_cut 10 t,
    )
