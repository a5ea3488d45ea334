-- Laws of the walks that look for a name: what is kept is over the fields from the next start on. Assumes nothing.
use Prim.Native.Nat.{ℕ, suc, ◌+◌, ◌-◌, ◌<◌, ◌≤◌}
use mathlib.Core.Path.{◌≡◌, sym, ◌∙◌}
use mathlib.Core.List.{List, [], ◌∷◌}
use mathlib.Core.Bool.{Bool, true, false, cond}
use native.Mathlib.Omega.{arith}
use lib.ListN.{length, get_or, take, drop}
use Rattle.slices.specs.Bytes.{same}
use Rattle.slices.proofs.Laws.{same_yes}
use Rattle.text.proofs.Laws.{either}
use Rattle.log_quotes.specs.declared.FieldEnd.{FieldEnd}
use Rattle.log_quotes.specs.Quotes.{start, fields, EndsAt}
use Rattle.log_quotes.proofs.Walk.{parts_last, parts_next}
use Rattle.log_names.specs.Names.{times, column}

module _ {s : List ℕ} {a : ℕ} {r : FieldEnd} (w : EndsAt start s a r) where
  abbrev here : List ℕ
  here = take (r.end - a) (drop a s)

  -- how often a name stands
  pub times_last : (name : List ℕ) (n h : ℕ) → r.end ≡ length s → h ≡ cond (same here name) 1 0 → times name (fields s) ≡ n + times name (fields (drop a s)) → n + h ≡ times name (fields s)
  unfolding times
  times_last name n h g k i = sym (i ∙ rw (parts_last w g, ← k) (omega arith))

  pub times_next :
      (name : List ℕ) (n h : ℕ) → (r.end ≡ length s → ⊥) → h ≡ cond (same here name) 1 0 →
      times name (fields s) ≡ n + times name (fields (drop a s)) → times name (fields s) ≡ n + h + times name (fields (drop (r.end + 1) s))
  unfolding times
  times_next name n h g k i = i ∙ rw (parts_next w g, ← k) (omega arith)

  -- where it stands first
  pub column_found : (name : List ℕ) (k : ℕ) → same here name ≡ true → column name (fields s) ≡ k + column name (fields (drop a s)) → k ≡ column name (fields s)
  unfolding column
  column_found name k g i = sym (i ∙ rw (w.parts, g) (omega arith))

  pub column_last :
      (name : List ℕ) (k : ℕ) → same here name ≡ false → r.end ≡ length s →
      column name (fields s) ≡ k + column name (fields (drop a s)) → k + 1 ≡ column name (fields s)
  unfolding column
  column_last name k g h i = sym (i ∙ rw (parts_last w h, g) (omega arith))

  pub column_next :
      (name : List ℕ) (k : ℕ) → same here name ≡ false → (r.end ≡ length s → ⊥) →
      column name (fields s) ≡ k + column name (fields (drop a s)) → column name (fields s) ≡ k + 1 + column name (fields (drop (r.end + 1) s))
  unfolding column
  column_next name k g h i = i ∙ rw (parts_next w h, g) (omega arith)

-- a hit is at most one
one_most : (b : Bool) → cond b 1 0 ≤ 1
one_most true = omega arith
one_most false = omega arith

pub hit_most : (f name : List ℕ) (h : ℕ) → h ≡ cond (same f name) 1 0 → h ≤ 1
hit_most f name h e = omega (arith, e, one_most (same f name))

-- at its column a name stands, where it stands at all
pub column_name : (name : List ℕ) (fs : List (List ℕ)) → 0 < times name fs → get_or fs (column name fs) [] ≡ name
unfolding times column
column_name name [] h = absurd (omega (arith, h))
column_name name (f ∷ fs) h =
    either (same f name)
    (λ e. rw e (same_yes f name e))
    (λ e. let g : 0 < 0 + times name fs = rw e at h in let z : column name fs + 1 ≡ suc (column name fs) = omega arith in rw (e, z) (column_name name fs (omega (arith, g))))
