-- What an operation makes of the marks of one row, and of many.
use Prim.Native.Nat.{ℕ, ◌+◌, ◌-◌, ◌<◌, ◌≤◌}
use mathlib.Core.Path.{◌≡◌, refl, sym, ◌∙◌}
use mathlib.Core.Bool.{Bool, true, false}
use mathlib.Core.List.{List, []}
use mathlib.Core.Logic.{◌⊎◌, inl, inr, ⊎_elim}
use native.Mathlib.Decide.{ℕ_discrete, dec_lt}
use native.Mathlib.Omega.{arith}
use lib.ListN.{length, set, length-set}
use lib.Dec.{eqb}
use lib.Seq.{get_or-set_same, get_or-set_other}
use Rattle.operation.specs.declared.Operation.{Operation}
use Rattle.operation.specs.Operation.{value, value_response}
use Rattle.conflict_marks.specs.Marks.{Has, Laid, Joined, is_set, is_read, Ran, moved_from, Moved, marks_at}
use Rattle.conflict_marks.proofs.Stored.{clash, below}
use Rattle.conflict_marks.proofs.ByKind.{value_add, value-full, value-take, value-short, value_set, value_read, value_other, response_add, response-full, response-take, response-short, fits_too, full_too, enough_too, short_too, from_add, from_take, from_failed, from_other}

-- What an operation makes of marks that are laid out.
pub joined_moved : {e : Operation} {at : ℕ} {s p t r : List Bool} → length s ≡ 256 → Laid s p → Joined 256 at p t r
    → ((v : ℕ) → v < 256 → Has s v → ((value e v < 256) × (value e v + at ≡ v + 256)) ⊎ Has t (value e v))
    → ((v x : ℕ) → v < 256 → x < 256 → Has s v → at + x ≡ v + 256 → x ≡ value e v) → Moved e s t r
joined_moved {e} {at} {s} {p} {t} {r} ls y j f g = record { long = j.long; kept = j.kept; ran = ran; only = only }
  where
    ran : (v : ℕ) → Has s v → Has r (value e v)
    ran v o =
        ⊎_elim
        (λ (l, q). let z : v + 256 ≡ at + value e v = omega (arith, q) in j.ran (value e v) l (rw z at (y.has v o)))
        (λ k. j.kept (value e v) k)
        (f v (below s v ls o) o)

    only : (x : ℕ) → Has r x → Has t x ⊎ ((v : ℕ) × Has s v × (x ≡ value e v))
    only x o =
        ⊎_elim (λ k. inl k) (λ (l, k). let (v, lv, i, q) = y.only (at + x) k in inr (v, i, g v x lv l i q)) (j.only x o)

pub set_moved : {e : Operation} {at : ℕ} {s p t r : List Bool} → length s ≡ 256 → Laid s p → Ran e at p t r → is_set e ≡ true → Moved e s t r
set_moved {e} {at} {s} {p} {t} {r} ls y h k = record { long = (h.sets k).0; kept = (h.sets k).1; ran = ran; only = only }
  where
    ran : (v : ℕ) → Has s v → Has r (value e v)
    ran v o = let z : v + 256 ≡ 256 + v = omega arith in rw (value_set e v k) ((h.sets k).2 v (below s v ls o) (rw z at (y.has v o)))

    only : (x : ℕ) → Has r x → Has t x ⊎ ((v : ℕ) × Has s v × (x ≡ value e v))
    only x o =
        ⊎_elim (λ i. inl i) (λ (q, (v, lv, i)). let (v', lv', i', q') = y.only (256 + v) i in inr (v', i', q ∙ sym (value_set e v' k))) ((h.sets k).3 x o)

-- Another's operation, run or left out.
pub other_moved : {e : Operation} {at : ℕ} {s p r : List Bool} → length s ≡ 256 → Laid s p → at ≡ moved_from e true → Ran e at p s r → Moved e s s r
other_moved {e} {at} {s} {p} {r} ls y q h = go (is_set e) refl (ℕ_discrete e.kind 1) (ℕ_discrete e.kind 2)
  where
    go : (b : Bool) → is_set e ≡ b → Dec (e.kind ≡ 1) → Dec (e.kind ≡ 2) → Moved e s s r
    go true k b c = set_moved ls y h k
    go false n (yes k) c =
        joined_moved ls y (h.joins n) (λ v l o. part v o (dec_lt 255 (v + e.amount))) (λ v x lv lx o z. sym (value_add e v k (omega (arith, q, from_add e k, z)) ∙ omega (arith, q, from_add e k, z)))
      where
        part : (v : ℕ) → Has s v → Dec (255 < v + e.amount) → ((value e v < 256) × (value e v + at ≡ v + 256)) ⊎ Has s (value e v)
        part v o (yes l) = inr (rw (value-full e v k l) o)
        part v o (no f) = let w = value_add e v k (omega arith) in inl (omega (arith, w), omega (arith, w, q, from_add e k))
    go false n (no n₁) (yes k) =
        joined_moved ls y (h.joins n) (λ v l o. part v l o (dec_lt v e.amount)) (λ v x lv lx o z. sym (value-take e v k (omega (arith, q, from_take e k, z)) ∙ omega (arith, q, from_take e k, z)))
      where
        part : (v : ℕ) → v < 256 → Has s v → Dec (v < e.amount) → ((value e v < 256) × (value e v + at ≡ v + 256)) ⊎ Has s (value e v)
        part v lv o (yes l) = inr (rw (value-short e v k l) o)
        part v lv o (no f) = let w = value-take e v k (omega arith) in inl (omega (arith, w), omega (arith, w, q, from_take e k))
    go false n (no n₁) (no n₂) =
        joined_moved ls y (h.joins n) (λ v l o. inr (rw (value_other e v n₁ n₂ n) o)) (λ v x lv lx o z. omega (arith, value_other e v n₁ n₂ n, q, from_other e true n₁ n₂, z))

pub read_moved : {e : Operation} {s : List Bool} → is_read e ≡ true → length s ≡ 256 → Moved e s s s
read_moved {e} k ls = record { long = ls; kept = λ v o. o; ran = λ v o. rw (value_read e v k) o; only = λ x o. inl o }

-- An own operation, where each marked value gives the response of u.
pub own_moved : {e : Operation} (u : ℕ) {at : ℕ} {s p t r : List Bool} → length s ≡ 256 → Laid s p → at ≡ moved_from e (eqb (value_response e u) 1)
    → ((v : ℕ) → Has s v → value_response e v ≡ value_response e u) → Ran e at p t r → Moved e s t r
own_moved {e} u {at} {s} {p} {t} {r} ls y q same h = go (is_set e) refl (ℕ_discrete e.kind 1) (ℕ_discrete e.kind 2)
  where
    alike : is_set e ≡ false → ((v : ℕ) → v < 256 → Has s v → (value e v < 256) × (value e v + at ≡ v + 256)) → Moved e s t r
    alike n f = joined_moved ls y (h.joins n) (λ v l o. inl (f v l o)) (λ v x lv lx o z. omega (arith, (f v lv o).1, z))

    go : (b : Bool) → is_set e ≡ b → Dec (e.kind ≡ 1) → Dec (e.kind ≡ 2) → Moved e s t r
    go true k b c = set_moved ls y h k
    go false n (yes k) c = part (dec_lt 255 (u + e.amount))
      where
        part : Dec (255 < u + e.amount) → Moved e s t r
        part (yes l) =
            let z : at ≡ 256 = q ∙ rw (response-full e u k l) (from_failed e u) in
            alike n (λ v lv o. let w = value-full e v k (full_too e u v k (same v o) l) in (omega (arith, w), omega (arith, w, z)))
        part (no f) =
            let i : u + e.amount ≤ 255 = omega arith in
            let z : at ≡ 256 - e.amount = q ∙ rw (response_add e u k i) (from_add e k) in
            alike n (λ v lv o. let d = fits_too e u v k (same v o) i in let w = value_add e v k d in (omega (arith, w, d), omega (arith, w, z)))
    go false n (no n₁) (yes k) = part (dec_lt u e.amount)
      where
        part : Dec (u < e.amount) → Moved e s t r
        part (yes l) =
            let z : at ≡ 256 = q ∙ rw (response-short e u k l) (from_failed e u) in
            alike n (λ v lv o. let w = value-short e v k (short_too e u v k (same v o) l) in (omega (arith, w), omega (arith, w, z)))
        part (no f) =
            let i : e.amount ≤ u = omega arith in
            let z : at ≡ 256 + e.amount = q ∙ rw (response-take e u k i) (from_take e k) in
            alike n (λ v lv o. let d = enough_too e u v k (same v o) i in let w = value-take e v k d in (omega (arith, w), omega (arith, w, d, z)))
    go false n (no n₁) (no n₂) =
        alike n (λ v lv o. let w = value_other e v n₁ n₂ n in (omega (arith, w), omega (arith, w, q, from_other e (eqb (value_response e u) 1) n₁ n₂)))

-- What one operation leaves.
pub ran_set : {e : Operation} {at : ℕ} {p t : List Bool} → is_set e ≡ true → length t ≡ 256 → e.amount < 256 → (k : ℕ) × (k < 256) × Has p (256 + k) → Ran e at p t (set t e.amount true)
ran_set {e} {at} {p} {t} k lt small w = record { sets = λ _. (length-set t e.amount true ∙ lt, kept, λ v l o. get_or-set_same t e.amount true false fits, only); joins = λ n. absurd (clash n k) }
  where
    fits : e.amount < length t
    fits = omega arith

    kept : (v : ℕ) → Has t v → Has (set t e.amount true) v
    kept v o = go (ℕ_discrete v e.amount)
      where
        go : Dec (v ≡ e.amount) → Has (set t e.amount true) v
        go (yes q) = rw q (get_or-set_same t e.amount true false fits)
        go (no n) = get_or-set_other t e.amount v true false n ∙ o

    only : (x : ℕ) → Has (set t e.amount true) x → Has t x ⊎ ((x ≡ e.amount) × ((v : ℕ) × (v < 256) × Has p (256 + v)))
    only x o = go (ℕ_discrete x e.amount)
      where
        go : Dec (x ≡ e.amount) → Has t x ⊎ ((x ≡ e.amount) × ((v : ℕ) × (v < 256) × Has p (256 + v)))
        go (yes q) = inr (q, w)
        go (no n) = inl (sym (get_or-set_other t e.amount x true false n) ∙ o)

pub ran_none : {e : Operation} {at : ℕ} {p t : List Bool} → is_set e ≡ true → length t ≡ 256 → ((k : ℕ) × (k < 256) × Has p (256 + k) → ⊥) → Ran e at p t t
ran_none k lt f = record { sets = λ _. (lt, λ v o. o, λ v l o. absurd (f (v, l, o)), λ x o. inl o); joins = λ n. absurd (clash n k) }

pub ran_joined : {e : Operation} {at : ℕ} {p t r : List Bool} → is_set e ≡ false → Joined 256 at p t r → Ran e at p t r
ran_joined n j = record { sets = λ k. absurd (clash n k); joins = λ _. j }

-- The marks l widened below j.
pub record Widening (j : ℕ) (e : Operation) (l r : List (List Bool)) : Type 0 where
  pub long : length r ≡ 33
  pub done : (i : ℕ) → i < j → Moved e (marks_at l i) (marks_at l i) (marks_at r i)
  pub left : (i : ℕ) → j ≤ i → marks_at r i ≡ marks_at l i

pub none_widened : {e : Operation} {l : List (List Bool)} → length l ≡ 33 → Widening 0 e l l
none_widened h = record { long = h; done = λ i lt. absurd (omega arith); left = λ i h. refl }

pub one_widened : {j at : ℕ} {e : Operation} {l r : List (List Bool)} {p t : List Bool} → Widening j e l r → j < 33 → length (marks_at l j) ≡ 256 → at ≡ moved_from e true
    → Laid (marks_at r j) p → Ran e at p (marks_at r j) t → Widening (j + 1) e l (set r j t)
one_widened {j} {at} {e} {l} {r} {p} {t} w h ll q y ran = record { long = length-set r j t ∙ w.long; done = λ i lt. done i lt (ℕ_discrete i j); left = left }
  where
    same : marks_at r j ≡ marks_at l j
    same = w.left j (omega arith)

    moved : Moved e (marks_at l j) (marks_at l j) t
    moved = other_moved ll (rw same at y) q (rw same at ran)

    done : (i : ℕ) → i < j + 1 → Dec (i ≡ j) → Moved e (marks_at l i) (marks_at l i) (marks_at (set r j t) i)
    done i lt (yes e') = rw (e', get_or-set_same r j t [] (omega (arith, w.long))) moved
    done i lt (no n) = rw (get_or-set_other r j i t [] n) (w.done i (omega arith))

    left : (i : ℕ) → j + 1 ≤ i → marks_at (set r j t) i ≡ marks_at l i
    left i lt = get_or-set_other r j i t [] (λ e'. omega arith) ∙ w.left i (omega arith)
