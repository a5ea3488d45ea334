-- Two of the starred cases without their numbers, for all cells and lists: others on other cells never conflict, and no others never conflict. Assumes nothing.
use Prim.Native.Nat.{ℕ, ◌<◌}
use mathlib.Core.Path.{◌≡◌, refl, sym, ap₂, ◌∙◌}
use mathlib.Core.Bool.{Bool, true, false}
use mathlib.Core.List.Memᴰ
use mathlib.Core.List.{List, [], ◌∷◌, map, Memᴰ}
use native.Mathlib.Decide.{ℕ_discrete, dec_lt}
use native.Mathlib.Omega.{arith}
use lib.ListN.{length, get_or, set, length-set, get_or-eq_default}
use lib.Seq.{get_or-set_same, get_or-set_other}
use Rattle.operation.specs.declared.Operation.{Operation}
use Rattle.operation.specs.declared.Cells.{Cells}
use Rattle.operation.specs.Operation.{number_at, change_at, value, temp, response, after, response_on}
use Rattle.conflict.specs.Conflict.{Turn, own, responses, Interleaving, done, leave, theirs, ours, Conflict, conflicts}
use Rattle.conflict.proofs.Meaning.{conflicts_iff}
use Rattle.conflict_laws.specs.Elsewhere.{Elsewhere}

-- Two lists of numbers are as long, and have the same number at k.
record Alike (k : ℕ) (l m : List ℕ) : Type 0 where
  long : length l ≡ length m
  held : number_at l k ≡ number_at m k

-- One number put at c in both.
set_both : (l m : List ℕ) (c x : ℕ) → length l ≡ length m → get_or (set l c x) c 0 ≡ get_or (set m c x) c 0
set_both l m c x h = go (dec_lt c (length l))
  where
    go : Dec (c < length l) → get_or (set l c x) c 0 ≡ get_or (set m c x) c 0
    go (yes i) = get_or-set_same l c x 0 i ∙ sym (get_or-set_same m c x 0 (omega arith))
    go (no i) =
        get_or-eq_default (set l c x) 0 {n = c} (omega (arith, length-set l c x))
        ∙ sym (get_or-eq_default (set m c x) 0 {n = c} (omega (arith, length-set m c x)))

-- Alike at k, also after a change of one elsewhere, or of both in one way at a place c where they are alike too.
one_changed : {k : ℕ} {l m : List ℕ} (c : ℕ) (f : ℕ → ℕ) → (c ≡ k → ⊥) → Alike k l m → Alike k (change_at l c f) m
one_changed {k} {l} {m} c f n a =
    record { long = length-set l c (f (number_at l c)) ∙ a.long; held = get_or-set_other l c k (f (number_at l c)) 0 (λ p. n (sym p)) ∙ a.held }

both_changed : {k : ℕ} {l m : List ℕ} (c : ℕ) (f : ℕ → ℕ) → Alike c l m → Alike k l m → Alike k (change_at l c f) (change_at m c f)
both_changed {k} {l} {m} c f b a = record {
  long = length-set l c (f (number_at l c)) ∙ a.long ∙ sym (length-set m c (f (number_at m c)));
  held = rw b.held (go (ℕ_discrete k c));
}
  where
    go : Dec (k ≡ c) → get_or (set l c (f (number_at m c))) k 0 ≡ get_or (set m c (f (number_at m c))) k 0
    go (yes p) = rw p (set_both l m c (f (number_at m c)) a.long)
    go (no n) = get_or-set_other l c k (f (number_at m c)) 0 n ∙ a.held ∙ sym (get_or-set_other m c k (f (number_at m c)) 0 n)

-- The same of cells: both their values and their temperatures.
record Same (k : ℕ) (s u : Cells) : Type 0 where
  values : Alike k s.values u.values
  temps : Alike k s.temps u.temps

same_after_other : {k : ℕ} {s u : Cells} (o : Operation) → (o.cell ≡ k → ⊥) → Same k s u → Same k (after o s) u
unfolding after
same_after_other o n a =
    record { values = one_changed o.cell (value o) n a.values; temps = one_changed o.cell (temp o) n a.temps }

same_after_own : {k : ℕ} {s u : Cells} (w : Operation) → Same w.cell s u → Same k s u → Same k (after w s) (after w u)
unfolding after
same_after_own w b a =
    record { values = both_changed w.cell (value w) b.values a.values; temps = both_changed w.cell (temp w) b.temps a.temps }

same_response_lem : {s u : Cells} (w : Operation) → Same w.cell s u → response_on w s ≡ response_on w u
unfolding response_on
same_response_lem w a = ap₂ (response w) a.values.held a.temps.held

-- Interleavings keep the own responses, from cells that are the same at each own operation's.
kept : {os ws : List Operation} {t : List Turn} {s u : Cells} → Interleaving os ws t
    → ((o w : Operation) → Memᴰ o os → Memᴰ w ws → o.cell ≡ w.cell → ⊥)
    → ((w : Operation) → Memᴰ w ws → Same w.cell s u)
    → responses s t ≡ responses u (map own ws)
unfolding responses
kept done apart same = refl
kept (leave x) apart same = kept x (λ o w i j. apart o w (Memᴰ.tail i) j) same
kept (theirs {o = o} x) apart same =
    kept x (λ p w i j. apart p w (Memᴰ.tail i) j) (λ w j. same_after_other o (apart o w (Memᴰ.head refl) j) (same w j))
kept (ours {w = w} x) apart same =
    let b = same w (Memᴰ.head refl) in
    ap₂ ◌∷◌ (same_response_lem w b) (kept x (λ o v i j. apart o v i (Memᴰ.tail j)) (λ v j. same_after_own w b (same v (Memᴰ.tail j))))

-- "Others on other cells": none of them on a cell of an own operation.
pub others_elsewhere : (cells : Cells) (others mine : List Operation) → Elsewhere others mine → Conflict cells others mine → ⊥
unfolding Conflict Elsewhere
others_elsewhere cells others mine apart (t, mixed, differ) =
    differ (kept mixed apart (λ w i. record { values = record { long = refl; held = refl }; temps = record { long = refl; held = refl } }))

-- "No others".
pub no_others : (cells : Cells) (mine : List Operation) → Conflict cells [] mine → ⊥
unfolding Elsewhere
no_others cells mine = others_elsewhere cells [] mine (λ o w i. absurd (Memᴰ.not-nil i))

-- The same of the test.
never : (cells : Cells) (others mine : List Operation) → (Conflict cells others mine → ⊥) → conflicts cells others mine ≡ false
never cells others mine n = go (conflicts cells others mine) refl
  where
    go : (b : Bool) → conflicts cells others mine ≡ b → b ≡ false
    go true q = absurd (n ((conflicts_iff cells others mine).0 q))
    go false q = refl

pub others_elsewhere_test : (cells : Cells) (others mine : List Operation) → Elsewhere others mine → conflicts cells others mine ≡ false
others_elsewhere_test cells others mine apart = never cells others mine (others_elsewhere cells others mine apart)

pub no_others_test : (cells : Cells) (mine : List Operation) → conflicts cells [] mine ≡ false
no_others_test cells mine = never cells [] mine (no_others cells mine)
