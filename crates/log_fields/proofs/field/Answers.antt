use mathlib.Core.Path.{refl}
use native.Mathlib.Omega.{arith}
use Rattle.log_fields.proofs.Places.{text_start, text_order, text_within, text_bytes}
use Rattle.log_fields.proofs.field.Goals as goal

pub slice_bounds-result-count : goal.slice_bounds-result-count
slice_bounds-result-count c = text_order _ _ c.field_part-p.ensures

pub slice_bounds-result-start : goal.slice_bounds-result-start
slice_bounds-result-start c = text_order _ _ c.field_part-p.ensures

pub slice_bounds-result-end : goal.slice_bounds-result-end
slice_bounds-result-end c = text_within _ _ c.field_part-p.ensures

pub returns : goal.returns
returns c =
    let f = c.field_part-p.ensures in
    record { bytes = text_bytes _ _ f; place = record { block = refl; offset = omega (arith, text_start _ _ f) } }
