-- One turn of a walk from field to field: `EndsAt` gives the field at hand and those after it. Assumes nothing.
use Prim.Native.Nat.{ℕ, ◌+◌, ◌-◌, ◌<◌}
use mathlib.Core.Path.{◌≡◌, refl, sym, ◌∙◌}
use mathlib.Core.List.{List, [], ◌∷◌}
use mathlib.Core.Bool.{true, false, true≢false}
use native.Mathlib.Omega.{arith}
use lib.ListN.{length, take, drop}
use lib.Dec.{eqb}
use borrow.Author.Tests.{eq-eqb, ne_eqb, eqb-true}
use Rattle.slices.proofs.Laws.{and_yes}
use Rattle.text.proofs.Laws.{either}
use Rattle.log_quotes.specs.declared.FieldEnd.{FieldEnd}
use Rattle.log_quotes.specs.Quotes.{Quoting, start, plain, inside, closed, broken, by_mark, move, next_quoting, may_end, separates, in_first, fields, split, later, EndsAt}

module _ {s : List ℕ} {a : ℕ} {r : FieldEnd} (w : EndsAt start s a r) where
  -- the field at hand is the last, or others come after it
  pub parts_last : r.end ≡ length s → fields (drop a s) ≡ take (r.end - a) (drop a s) ∷ []
  unfolding later
  parts_last h = w.parts ∙ rw (eq-eqb r.end (length s) h)

  pub parts_next : (r.end ≡ length s → ⊥) → fields (drop a s) ≡ take (r.end - a) (drop a s) ∷ fields (drop (r.end + 1) s)
  unfolding later
  parts_next h = w.parts ∙ rw (ne_eqb r.end (length s) h)

in_some : (b : ℕ) (fs : List (List ℕ)) → length (in_first b fs) ≡ length fs
unfolding in_first
in_some b [] = refl
in_some b (f ∷ fs) = refl

-- a line has one field or more
pub split-some : (q : Quoting) (s : List ℕ) → 0 < length (split q s)
unfolding split
split-some q [] = omega arith
split-some q (b ∷ s) = either (separates q b) (λ e. rw e (omega arith)) (λ e. rw e (omega (arith, in_some b (split (next_quoting q b) s), split-some (next_quoting q b) s)))

-- a byte that separates is a comma, where a field may end
pub sep_comma : (q : Quoting) (b : ℕ) → separates q b ≡ true → (b ≡ 44) × (may_end q ≡ true)
sep_comma q b e = let h = and_yes (eqb b 44) (may_end q) e in (eqb-true b 44 h.0, h.1)

-- a comma where a field may end starts the next
pub comma_start : (q : Quoting) → may_end q ≡ true → move q false true ≡ start
unfolding move by_mark may_end
comma_start start e = refl
comma_start plain e = refl
comma_start inside e = absurd (true≢false (sym e))
comma_start closed e = refl
comma_start broken e = absurd (true≢false (sym e))

-- after a separator a field starts
pub sep_start : (q : Quoting) (b : ℕ) → separates q b ≡ true → next_quoting q b ≡ start
sep_start q b e = let h = sep_comma q b e in rw h.0 (comma_start q h.1)
