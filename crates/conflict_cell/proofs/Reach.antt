-- The sets of values reached, as rows of marks, and what they say of a conflict among operations on one cell.
use Prim.Native.Nat.{ℕ, ◌<◌, ◌≤◌, zero, suc}
use mathlib.Core.Path.{◌≡◌, refl, sym, ◌∙◌, subst, subst₂}
use mathlib.Core.Bool.{Bool}
use mathlib.Core.List.{List, [], ◌∷◌}
use mathlib.Core.Logic.{◌⊎◌, ⊎_elim}
use native.Mathlib.Decide.{ℕ_discrete, dec_lt}
use native.Mathlib.Nat.{le_of_suc-le-suc, not-suc-le-zero}
use native.Mathlib.Omega.{arith}
use lib.ListN.{length, get_or, set, take, drop, drop_of_length-le}
use lib.Seq.{get_or-set_same, get_or-set_other, drop-cons}
use Rattle.operation.specs.declared.Operation.{Operation}
use Rattle.operation.specs.Operation.{no_op, value, value_response}
use Rattle.conflict_marks.specs.Marks.{Has, Moved, marks_at}
use Rattle.conflict_cell.specs.Differs.{Differs, here, step, skip, runs}
use Rattle.conflict_cell.proofs.First.{FirstMarks}

-- Sets of states, P, that hold with each state and the own operations that are left the state after the next own operation, and in which no own response differs.
module _ {S R : Type 0} (val : Operation → S → S) (res : Operation → S → R) (P : S → S → List Operation → Type 0)
    (closed : (v u : S) (w : Operation) (ws : List Operation) → P v u (w ∷ ws) → (res w v ≡ res w u) × P (val w v) (val w u) ws) where
  -- With no others' entries left there is no conflict.
  pub final : {v u : S} {ws : List Operation} → Differs val res v u [] ws → P v u ws → ⊥
  final {v} {u} (here {w = w} {ws = ws} n) p = n (closed v u w ws p).0
  final {v} {u} (step {w = w} {ws = ws} d) p = final d (closed v u w ws p).1

  -- With one more others' operation run, or left out, from each state, a conflict is kept.
  pub push : {v u : S} {ws os : List Operation} {o : Operation} (Q : S → S → List Operation → Type 0)
      → ((v u : S) (ws : List Operation) → P v u ws → Q v u ws × Q (val o v) u ws)
      → Differs val res v u (o ∷ os) ws → P v u ws
      → (v : S) × (u : S) × (ws : List Operation) × Q v u ws × Differs val res v u os ws
  push {v} {u} Q wide (here {w = w} {ws = ws} n) p = absurd (n (closed v u w ws p).0)
  push {v} {u} Q wide (step {w = w} {ws = ws} d) p = push Q wide d (closed v u w ws p).1
  push {v} {u} {ws} Q wide (skip d) p = (v, u, ws, (wide v u ws p).0, d)
  push {v} {u} {ws} {o = o} Q wide (runs d) p = (val o v, u, ws, (wide v u ws p).1, d)

abbrev pub op_no : List Operation → ℕ → Operation
op_no l j = get_or l j no_op

-- The value of the cell after a list of operations.
pub ran : ℕ → List Operation → ℕ
ran s [] = s
ran s (w ∷ ws) = ran (value w s) ws

pub ran_none : (s : ℕ) → ran s [] ≡ s
unfolding ran
ran_none s = refl

pub ran-suc : (s : ℕ) (ws : List Operation) (j : ℕ) → j < length ws → ran s (take (suc j) ws) ≡ value (op_no ws j) (ran s (take j ws))
unfolding ran
ran-suc s [] j h = absurd (not-suc-le-zero h)
ran-suc s (w ∷ ws) zero h = refl
ran-suc s (w ∷ ws) (suc j) h = ran-suc (value w s) ws j (le_of_suc-le-suc h)

module _ (start : ℕ) (ws : List Operation) where
  abbrev pub alone : ℕ → ℕ
  alone j = ran start (take j ws)

  -- A conflict from the value v with j own operations run.
  abbrev pub From : ℕ → ℕ → List Operation → Type 0
  From j v os = Differs (value) (value_response) v (alone j) os (drop j ws)

  from_here : {os : List Operation} (j v : ℕ) → j < length ws → (value_response (op_no ws j) v ≡ value_response (op_no ws j) (alone j) → ⊥) → From j v os
  from_here j v h n = rw (drop-cons ws j no_op h) (here n)

  from_step : {os : List Operation} (j v : ℕ) → j < length ws → From (suc j) (value (op_no ws j) v) os → From j v os
  from_step j v h d = rw (drop-cons ws j no_op h) (step (rw (ran-suc start ws j h) at d))

  -- The marks l stand for a conflict: with the others' operations os left.
  pub record Held (Goal : Type 0) (os : List Operation) (l : List (List Bool)) : Type 0 where
    pub long : (j : ℕ) → j ≤ length ws → length (marks_at l j) ≡ 256
    pub sound : (j v : ℕ) → j ≤ length ws → Has (marks_at l j) v → From j v os → Goal
    pub complete : Goal → (j : ℕ) × (v : ℕ) × (j ≤ length ws) × Has (marks_at l j) v × From j v os

  -- Below n own operations, no own response differs, and the values after the next own operation are marked.
  abbrev pub Closed : List (List Bool) → ℕ → Type 0
  Closed l n = (j v : ℕ) → j < n → Has (marks_at l j) v → (value_response (op_no ws j) v ≡ value_response (op_no ws j) (alone j)) × Has (marks_at l (suc j)) (value (op_no ws j) v)

  abbrev In : List (List Bool) → ℕ → ℕ → List Operation → Type 0
  In l v u rest = (j : ℕ) × (j ≤ length ws) × Has (marks_at l j) v × (u ≡ alone j) × (rest ≡ drop j ws)

  in_closed : (l : List (List Bool)) → Closed l (length ws) → (v u : ℕ) (w : Operation) (rest : List Operation) → In l v u (w ∷ rest)
      → (value_response w v ≡ value_response w u) × In l (value w v) (value w u) rest
  in_closed l cl v u w rest (j, hj, has, eu, ew) = go (dec_lt j (length ws))
    where
      go : Dec (j < length ws) → (value_response w v ≡ value_response w u) × In l (value w v) (value w u) rest
      go (yes h) =
          let e : w ∷ rest ≡ op_no ws j ∷ drop (suc j) ws = ew ∙ drop-cons ws j no_op h in
          let ee : w ≡ op_no ws j = cc in
          let er : rest ≡ drop (suc j) ws = cc in
          let c = cl j v h has in
          (rw (ee, eu) c.0, (suc j, h, rw ee c.1, rw (ee, eu) (sym (ran-suc start ws j h)), er))
      go (no n) =
          let e : w ∷ rest ≡ [] = ew ∙ drop_of_length-le ws {i = j} (omega arith) in
          let z : ◌≡◌ {A = ℕ} 0 1 = cc in absurd (omega arith)

  -- With none of the others' operations left there is no conflict.
  pub none_left : {Goal : Type 0} (l : List (List Bool)) → Closed l (length ws) → Held Goal [] l → Goal → ⊥
  none_left l cl h g = let (j, v, hj, has, d) = h.complete g in final (value) (value_response) (In l) (in_closed l cl) d (j, hj, has, refl, refl)

  -- Another's operation, run or left out.
  pub widens : {Goal : Type 0} {o : Operation} {os : List Operation} (l l' : List (List Bool)) → Closed l (length ws) → Held Goal (o ∷ os) l
      → ((j : ℕ) → j ≤ length ws → Moved o (marks_at l j) (marks_at l j) (marks_at l' j)) → Held Goal os l'
  widens {Goal} {o} {os} l l' cl h mv = record { long = λ j hj. (mv j hj).long; sound = sound; complete = complete }
    where
      sound : (j v : ℕ) → j ≤ length ws → Has (marks_at l' j) v → From j v os → Goal
      sound j v hj has d =
          ⊎_elim (λ old. h.sound j v hj old (skip d)) (λ r. h.sound j r.0 hj r.1 (runs (rw r.2 at d))) ((mv j hj).only v has)

      wide : (v u : ℕ) (rest : List Operation) → In l v u rest → In l' v u rest × In l' (value o v) u rest
      wide v u rest p =
          ((p.0, p.1, (mv p.0 p.1).kept v p.2, p.3, p.4), (p.0, p.1, (mv p.0 p.1).ran v p.2, p.3, p.4))

      complete : Goal → (j : ℕ) × (v : ℕ) × (j ≤ length ws) × Has (marks_at l' j) v × From j v os
      complete g =
          let (j, v, hj, has, d) = h.complete g in
          let (v', u', rest, p, d') = push (value) (value_response) (In l) (in_closed l cl) (In l') wide d (j, hj, has, refl, refl) in
          (p.0, v', p.1, p.2, subst₂ (λ x y. Differs (value) (value_response) v' x os y) p.3 p.4 d')

  -- A differing response.
  pub found : {Goal : Type 0} {os : List Operation} {l : List (List Bool)} (j v : ℕ) → Held Goal os l → j < length ws → Has (marks_at l j) v
      → (value_response (op_no ws j) v ≡ value_response (op_no ws j) (alone j) → ⊥) → Goal
  found j v h lt has n = h.sound j v (omega arith) has (from_here j v lt n)

  pub begins : {os : List Operation} {l : List (List Bool)} → FirstMarks start l → length ws < 33 → Held (Differs (value) (value_response) start start os ws) os l
  unfolding ran
  begins {os} {l} f short = record {
    long = λ j hj. f.long j (omega arith);
    sound = λ j v hj has d. let e = f.only j v has in subst₂ (λ i x. From i x os) e.0 e.1 d;
    complete = λ g. (0, start, omega arith, f.first, g);
  }

  -- One own operation run on the values of its set.
  module _ (l : List (List Bool)) (j : ℕ) (into : List Bool) (lt : j < length ws) (fits : suc j < length l) where
    stored : (i : ℕ) → (i ≡ suc j → ⊥) → marks_at (set l (suc j) into) i ≡ marks_at l i
    stored i n = get_or-set_other l (suc j) i into [] n

    new : marks_at (set l (suc j) into) (suc j) ≡ into
    new = get_or-set_same l (suc j) into [] fits

    pub closes : Closed l j → ((v : ℕ) → Has (marks_at l j) v → (value_response (op_no ws j) v ≡ value_response (op_no ws j) (alone j)) × Has into (value (op_no ws j) v))
        → Closed (set l (suc j) into) (suc j)
    closes cl own i v h has = go (ℕ_discrete i j)
      where
        has' : Has (marks_at l i) v
        has' = rw (stored i (λ e. omega arith)) at has

        go : Dec (i ≡ j) → (value_response (op_no ws i) v ≡ value_response (op_no ws i) (alone i)) × Has (marks_at (set l (suc j) into) (suc i)) (value (op_no ws i) v)
        go (yes e) = rw (e, new) (own v (rw e at has'))
        go (no n) = rw (stored (suc i) (λ e. omega arith)) (cl i v (omega arith) has')

    pub adds : {Goal : Type 0} {os : List Operation} → Held Goal os l → length (into) ≡ 256
        → ((x : ℕ) → Has (marks_at l (suc j)) x → Has into x)
        → ((x : ℕ) → Has into x → Has (marks_at l (suc j)) x ⊎ ((y : ℕ) × Has (marks_at l j) y × (x ≡ value (op_no ws j) y)))
        → Held Goal os (set l (suc j) into)
    adds {Goal} {os} h li kept only = record { long = λ i hi. long i hi (ℕ_discrete i (suc j)); sound = λ i v hi has d. sound i v hi has d (ℕ_discrete i (suc j)); complete = complete }
      where
        long : (i : ℕ) → i ≤ length ws → Dec (i ≡ suc j) → length (marks_at (set l (suc j) into) i) ≡ 256
        long i hi (no n) = rw (stored i n) (h.long i hi)
        long i hi (yes e) = rw (e, new) li

        sound : (i v : ℕ) → i ≤ length ws → Has (marks_at (set l (suc j) into) i) v → From i v os → Dec (i ≡ suc j) → Goal
        sound i v hi has d (no n) = h.sound i v hi (rw (stored i n) at has) d
        sound i v hi has d (yes e) =
            let d' = subst (λ x. From x v os) e d in
            ⊎_elim (λ old. h.sound (suc j) v (omega arith) old d')
            (λ r. h.sound j r.0 (omega arith) r.1 (from_step j r.0 lt (subst (λ x. From (suc j) x os) r.2 d')))
            (only v (rw (e, new) at has))

        keep : (i v : ℕ) → Has (marks_at l i) v → Dec (i ≡ suc j) → Has (marks_at (set l (suc j) into) i) v
        keep i v has (no n) = rw (stored i n) has
        keep i v has (yes e) = rw (e, new) (kept v (rw e at has))

        complete : Goal → (i : ℕ) × (v : ℕ) × (i ≤ length ws) × Has (marks_at (set l (suc j) into) i) v × From i v os
        complete g = let (i, v, hi, has, d) = h.complete g in (i, v, hi, keep i v has (ℕ_discrete i (suc j)), d)
