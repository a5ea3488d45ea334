use Rattle.std.proofs.Common.{ℕ, List, ◌≡◌, ◌∙◌, ap, sym, arith, replicate}
use Rattle.std.specs.Array.{AllOfLen}
use Rattle.std.proofs.lemmas.List.{ext_get_or, get_or-replicate, length-replicate}
use Rattle.operation.specs.declared.Cells.{Cells}
use Rattle.operation.specs.Operation.{zero_cells}
use Rattle.operation.proofs.zero_cells.Goals as goal

zeros : (n : ℕ) (s : List ℕ) → AllOfLen (λ x. x ≡ 0) s n → s ≡ replicate n 0
zeros n s h =
    ext_get_or 0 s (replicate n 0) (h.long ∙ sym (length-replicate n 0)) (λ i l. h.at i 0 (omega (arith, h.long)) ∙ sym (get_or-replicate n i 0 0 (omega (arith, h.long))))

made : (s : Cells) → s.values ≡ replicate 16 0 → s.temps ≡ replicate 16 0 → s ≡ zero_cells
made s v t =
    ap (λ (l : List ℕ). record { values = l; temps = s.temps }) v ∙ ap (λ (l : List ℕ). record { values = replicate 16 0; temps = l }) t

pub returns : goal.returns
returns c = made _ (zeros 16 _ c.default.ensures.0) (zeros 16 _ c.default.ensures.1)
