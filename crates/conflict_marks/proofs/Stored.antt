-- Marks stored one by one: joined to a row, laid out in the middle of 768 places.
use Prim.Native.Nat.{ℕ, zero, suc, ◌+◌, ◌-◌, ◌<◌, ◌≤◌}
use mathlib.Core.Path.{◌≡◌, refl, sym, ◌∙◌}
use mathlib.Core.Bool.{Bool, true, false, false≢true, ◌||◌}
use mathlib.Core.List.{List}
use mathlib.Core.Logic.{◌⊎◌, inl, inr, ⊎_elim}
use native.Mathlib.Decide.{ℕ_discrete, dec_lt}
use native.Mathlib.Omega.{arith}
use lib.ListN.{length, get_or, set, replicate, length-set, get_or-eq_default}
use lib.Seq.{get_or-set_same, get_or-set_other}
use Rattle.conflict_marks.specs.Marks.{Has, Blank, Laid, Joined}

pub clash : {b : Bool} → b ≡ false → b ≡ true → ⊥
clash e h = false≢true (sym e ∙ h)

pub or_either : (a b : Bool) → (a || b) ≡ true → (a ≡ true) ⊎ (b ≡ true)
or_either true b e = inl refl
or_either false b e = inr e

pub below : (s : List Bool) (v : ℕ) → length (s) ≡ 256 → Has s v → v < 256
below s v l h = go (dec_lt v 256)
  where
    go : Dec (v < 256) → v < 256
    go (yes p) = p
    go (no n) = absurd (clash (get_or-eq_default (s) false (omega arith)) h)

-- A mark at x stored as y or b, where y was there.
module _ (l : List Bool) (x : ℕ) (b : Bool) (fits : x < length l) where
  abbrev joined : List Bool
  joined = set l x (get_or l x false || b)

  pub join_kept : (v : ℕ) → get_or l v false ≡ true → get_or joined v false ≡ true
  join_kept v h = go (ℕ_discrete v x)
    where
      go : Dec (v ≡ x) → get_or joined v false ≡ true
      go (yes p) = rw (p, get_or-set_same l x (get_or l x false || b) false fits, rw p at h)
      go (no n) = get_or-set_other l x v (get_or l x false || b) false n ∙ h

  pub join_new : b ≡ true → get_or joined x false ≡ true
  join_new e = get_or-set_same l x (get_or l x false || b) false fits ∙ last (get_or l x false) e
    where
      last : (a : Bool) → b ≡ true → (a || b) ≡ true
      last true e = refl
      last false e = e

  pub join-only : (v : ℕ) → get_or joined v false ≡ true → (get_or l v false ≡ true) ⊎ ((v ≡ x) × (b ≡ true))
  join-only v h = go (ℕ_discrete v x)
    where
      pick : (a : Bool) → get_or l x false ≡ a → (a || b) ≡ true → (get_or l x false ≡ true) ⊎ (b ≡ true)
      pick true q e = inl q
      pick false q e = inr e

      go : Dec (v ≡ x) → (get_or l v false ≡ true) ⊎ ((v ≡ x) × (b ≡ true))
      go (yes p) =
          ⊎_elim (λ q. inl (rw p q)) (λ e. inr (p, e))
          (pick (get_or l x false) refl (sym (get_or-set_same l x (get_or l x false || b) false fits) ∙ (rw p at h)))
      go (no n) = inl (sym (get_or-set_other l x v (get_or l x false || b) false n) ∙ h)

-- Places joined one by one.
pub none_joined : {at : ℕ} {p t : List Bool} → length t ≡ 256 → Joined 0 at p t t
none_joined h = record { long = h; kept = λ v o. o; ran = λ v a. absurd (omega arith); only = λ v o. inl o }

pub one_joined : {n at : ℕ} {p t r : List Bool} → Joined n at p t r → n < 256 → Joined (n + 1) at p t (set r n (get_or r n false || get_or p (at + n) false))
one_joined {n} {at} {p} {t} {r} j h = record { long = length-set r n m ∙ j.long; kept = λ v o. join_kept r n b fits v (j.kept v o); ran = ran; only = only }
  where
    b : Bool
    b = get_or p (at + n) false

    m : Bool
    m = get_or r n false || get_or p (at + n) false

    fits : n < length r
    fits = omega (arith, j.long)

    ran : (v : ℕ) → v < n + 1 → Has p (at + v) → Has (set r n (get_or r n false || get_or p (at + n) false)) v
    ran v l o = go (ℕ_discrete v n)
      where
        go : Dec (v ≡ n) → Has (set r n (get_or r n false || get_or p (at + n) false)) v
        go (yes e) = rw e (join_new r n (get_or p (at + n) false) fits (rw e at o))
        go (no f) = join_kept r n (get_or p (at + n) false) fits v (j.ran v (omega arith) o)

    only : (v : ℕ) → Has (set r n (get_or r n false || get_or p (at + n) false)) v → Has t v ⊎ ((v < n + 1) × Has p (at + v))
    only v o =
        ⊎_elim
        (λ k. ⊎_elim (λ e. inl e) (λ (l, i). inr (omega arith, i)) (j.only v k))
        (λ (e, i). inr (omega arith, rw e i))
        (join-only r n (get_or p (at + n) false) fits v o)

-- Marks laid out one by one.
pub record Laying (n : ℕ) (s p : List Bool) : Type 0 where
  pub long : length p ≡ 768
  pub middle : (x : ℕ) → Has p x → (256 ≤ x) × (x < 512)
  pub same : (v : ℕ) → v < n → get_or p (v + 256) false ≡ get_or s v false

pub none_laid : {s p : List Bool} → Blank p → Laying 0 s p
none_laid b = record { long = b.long; middle = b.middle; same = λ v l. absurd (omega arith) }

one_same : {n : ℕ} {s p : List Bool} → Laying n s p → n < 256 → Laying (n + 1) s (set p (n + 256) (get_or s n false))
one_same {n} {s} {p} y h = record { long = length-set p (n + 256) (get_or s n false) ∙ y.long; middle = λ x o. middle x o (ℕ_discrete x (n + 256)); same = λ v l. same v l (ℕ_discrete v n) }
  where
    middle : (x : ℕ) → Has (set p (n + 256) (get_or s n false)) x → Dec (x ≡ n + 256) → (256 ≤ x) × (x < 512)
    middle x o (yes e) = (omega arith, omega arith)
    middle x o (no f) = y.middle x (sym (get_or-set_other p (n + 256) x (get_or s n false) false f) ∙ o)

    same : (v : ℕ) → v < n + 1 → Dec (v ≡ n) → get_or (set p (n + 256) (get_or s n false)) (v + 256) false ≡ get_or s v false
    same v l (yes e) = rw e (get_or-set_same p (n + 256) (get_or s n false) false (omega (arith, y.long)))
    same v l (no f) = get_or-set_other p (n + 256) (v + 256) (get_or s n false) false (λ q. f (omega arith)) ∙ y.same v (omega arith)

-- A mark joined with the unmarked place below.
pub one_laid : {n : ℕ} {s p : List Bool} → Laying n s p → n < 256 → Laying (n + 1) s (set p (n + 256) (get_or s n false || get_or p n false))
one_laid {n} {s} {p} y h = rw (blank (get_or s n false) (get_or p n false) (λ o. omega (arith, (y.middle n o).0))) (one_same y h)
  where
    blank : (a b : Bool) → (b ≡ true → ⊥) → (a || b) ≡ a
    blank true b f = refl
    blank false true f = absurd (f refl)
    blank false false f = refl

pub all_laid : {s p : List Bool} → length s ≡ 256 → Laying 256 s p → Laid s p
all_laid {s} {p} h y = record { long = y.long; has = λ v o. y.same v (below s v h o) ∙ o; only = only }
  where
    only : (x : ℕ) → Has p x → (v : ℕ) × (v < 256) × Has s v × (x ≡ v + 256)
    only x o =
        let m = y.middle x o in
        let e : x ≡ x - 256 + 256 = omega (arith, m.0) in
        let l : x - 256 < 256 = omega (arith, m.0, m.1) in
        (x - 256, l, sym (y.same (x - 256) l) ∙ (rw e at o), e)

pub laid_blank : {s p : List Bool} → Laid s p → Blank p
laid_blank y = record { long = y.long; middle = λ x o. let r = y.only x o in (omega (arith, r.3), omega (arith, r.1, r.3)) }

-- What holds of an element and of the default holds of a repeat, at any index.
pub repeated : {A : Type 0} (P : A → Type 0) (a d : A) → P a → P d → (n i : ℕ) → P (get_or (replicate n a) i d)
repeated P a d pa pd zero i = pd
repeated P a d pa pd (suc n) zero = pa
repeated P a d pa pd (suc n) (suc i) = repeated P a d pa pd n i

-- Whether one of the first k places from `at` on is marked.
pub record Seen (p : List Bool) (at k : ℕ) (b : Bool) : Type 0 where
  pub only : b ≡ true → (i : ℕ) × (i < k) × Has p (at + i)
  pub all : (i : ℕ) → i < k → Has p (at + i) → b ≡ true
