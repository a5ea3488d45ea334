-- A conflict told by parts of its operations. Assumes nothing.
use Prim.Native.Nat.{ℕ, suc, ◌+◌, ◌<◌, ◌≤◌}
use mathlib.Core.Path.{◌≡◌, refl, sym, ap, ◌∙◌}
use mathlib.Core.Bool.{Bool, true, false, cond}
use mathlib.Core.List.{List, [], ◌∷◌, ◌++◌, append-nil}
use mathlib.Core.Logic.{◌↔◌}
use native.Mathlib.Omega.{arith}
use native.Mathlib.Numerals.{add-one}
use lib.ListN.{get_or, set, take, length}
use lib.Seq.{take-suc-set}
use Rattle.std.specs.List.{filter}
use Rattle.operation.specs.declared.Operation.{Operation}
use Rattle.operation.specs.Operation.{no_op}
use Rattle.operation.proofs.Laws.{take_more}
use Rattle.conflict_cell.specs.Differs.{Differs, here, step, skip, runs}
use Rattle.conflict_numbers.specs.Numbers.{parts}

-- The parts, one by one from the front.
module _ (test : Operation → Bool) (part : Operation → Operation) where
  pub in_cons : (e : Operation) (es : List Operation) → test e ≡ true → parts test part (e ∷ es) ≡ part e ∷ parts test part es
  unfolding parts
  in_cons e es q = rw q

  pub out_cons : (e : Operation) (es : List Operation) → test e ≡ false → parts test part (e ∷ es) ≡ parts test part es
  unfolding parts
  out_cons e es q = rw q

  -- One operation more at the end.
  more : (es : List Operation) (e : Operation) → parts test part (es ++ (e ∷ [])) ≡ parts test part es ++ parts test part (e ∷ [])
  unfolding parts
  more [] e = refl
  more (x ∷ es) e = go (test x) (more es e)
    where
      go : (b : Bool) → parts test part (es ++ (e ∷ [])) ≡ parts test part es ++ parts test part (e ∷ [])
          → cond b (part x ∷ parts test part (es ++ (e ∷ []))) (parts test part (es ++ (e ∷ []))) ≡ cond b (part x ∷ parts test part es) (parts test part es) ++ parts test part (e ∷ [])
      go true q = rw q
      go false q = q

  pub in_take : (ops : List Operation) (i : ℕ) → i < length ops → test (get_or ops i no_op) ≡ true
      → parts test part (take (i + 1) ops) ≡ parts test part (take i ops) ++ (part (get_or ops i no_op) ∷ [])
  unfolding parts
  in_take ops i h q = rw (take_more ops i h, more (take i ops) (get_or ops i no_op), in_cons (get_or ops i no_op) [] q)

  pub out_take : (ops : List Operation) (i : ℕ) → i < length ops → test (get_or ops i no_op) ≡ false → parts test part (take (i + 1) ops) ≡ parts test part (take i ops)
  unfolding parts
  out_take ops i h q =
      rw (take_more ops i h, more (take i ops) (get_or ops i no_op), out_cons (get_or ops i no_op) [] q, append-nil (parts test part (take i ops)))

  -- How many pass the test.
  pub filter_parts : (es : List Operation) → length (filter test es) ≡ length (parts test part es)
  unfolding parts
  filter_parts [] = refl
  filter_parts (e ∷ es) = go (test e) (filter_parts es)
    where
      go : (b : Bool) → length (filter test es) ≡ length (parts test part es)
          → length (cond b (e ∷ filter test es) (filter test es)) ≡ length (cond b (part e ∷ parts test part es) (parts test part es))
      go true q = ap suc q
      go false q = q

pub filter_short : (test : Operation → Bool) (es : List Operation) → length (filter test es) ≤ length es
filter_short test [] = omega arith
filter_short test (e ∷ es) = go (test e) (filter_short test es)
  where
    go : (b : Bool) → length (filter test es) ≤ length es → length (cond b (e ∷ filter test es) (filter test es)) ≤ length (e ∷ es)
    go true q = omega (arith, q)
    go false q = omega (arith, q)

-- Parts put at the front of a list.
pub put_more : (l xs : List Operation) (c : ℕ) (e : Operation) → c < length l → take c l ≡ xs → take (c + 1) (set l c e) ≡ xs ++ (e ∷ [])
put_more l xs c e h p = rw (add-one c, ← p) (take-suc-set l c e h)

empty : (l : List Operation) → length l ≡ 0 → l ≡ []
empty [] h = refl
empty (x ∷ l) h = absurd (omega arith)

-- With no own operation, or with none of the others', there is no conflict.
module _ {S R : Type 0} (val : Operation → S → S) (res : Operation → S → R) where
  no_own : {v u : S} {os : List Operation} → Differs val res v u os [] → ⊥
  no_own (skip d) = no_own d
  no_own (runs d) = no_own d

  no_other : {v u : S} {ws : List Operation} → Differs val res v u [] ws → v ≡ u → ⊥
  no_other (here {w = w} n) p = n (ap (res w) p)
  no_other (step {w = w} d) p = no_other d (ap (val w) p)

  pub untouched_own : (v : S) (os ws : List Operation) → length ws ≡ 0 → Differs val res v v os ws → ⊥
  untouched_own v os ws h d = no_own (rw (empty ws h) at d)

  pub untouched_other : (v : S) (os ws : List Operation) → length os ≡ 0 → Differs val res v v os ws → ⊥
  untouched_other v os ws h d = no_other (rw (empty os h) at d) refl

-- Ways k to look at states: each sees a state of its own, the operations that pass its test, by their parts, and all that they answer.
-- Between them they see every response that differs.
pub record Views {S R T A K : Type 0} (val : Operation → S → S) (res : Operation → S → R) (val' : Operation → T → T) (res' : Operation → T → A)
    (Good : S → Type 0) (test : K → Operation → Bool) (part : K → Operation → Operation) (look : K → S → T) : Type 0 where
  pub good : (e : Operation) (s : S) → Good s → Good (val e s)
  pub ran : (k : K) (e : Operation) (s : S) → Good s → test k e ≡ true → look k (val e s) ≡ val' (part k e) (look k s)
  pub kept : (k : K) (e : Operation) (s : S) → test k e ≡ false → look k (val e s) ≡ look k s
  pub told : (k : K) (e : Operation) (s u : S) → test k e ≡ true → res e s ≡ res e u → res' (part k e) (look k s) ≡ res' (part k e) (look k u)
  pub seen : (e : Operation) (s u : S) → Good s → Good u → (res e s ≡ res e u → ⊥)
      → (k : K) × (test k e ≡ true) × (res' (part k e) (look k s) ≡ res' (part k e) (look k u) → ⊥)

-- Lists, with the parts of those that pass the test.
data Parted (test : Operation → Bool) (part : Operation → Operation) : List Operation → List Operation → Type 0 where
  none : Parted test part [] []
  passes : {e : Operation} {es ps : List Operation} → test e ≡ true → Parted test part es ps → Parted test part (e ∷ es) (part e ∷ ps)
  fails : {e : Operation} {es ps : List Operation} → test e ≡ false → Parted test part es ps → Parted test part (e ∷ es) ps

parted : (test : Operation → Bool) (part : Operation → Operation) (es : List Operation) → Parted test part es (parts test part es)
unfolding parts
parted test part [] = none
parted test part (e ∷ es) = go (test e) refl (parted test part es)
  where
    go : (b : Bool) → test e ≡ b → Parted test part es (parts test part es) → Parted test part (e ∷ es) (cond b (part e ∷ parts test part es) (parts test part es))
    go true q p = passes q p
    go false q p = fails q p

module _ {S R T A K : Type 0} {val : Operation → S → S} {res : Operation → S → R} {val' : Operation → T → T} {res' : Operation → T → A}
    {Good : S → Type 0} {test : K → Operation → Bool} {part : K → Operation → Operation} {look : K → S → T}
    (v : Views val res val' res' Good test part look) where
  abbrev Seen : S → S → List Operation → List Operation → Type 0
  Seen s u os ws = (k : K) × Differs val' res' (look k s) (look k u) (parts (test k) (part k) os) (parts (test k) (part k) ws)

  -- From the states to what one way sees of them.
  down_own : (s u : S) (w : Operation) (os ws : List Operation) → Good s → Good u → Seen (val w s) (val w u) os ws → Seen s u os (w ∷ ws)
  down_own s u w os ws gs gu (k, d) = go (test k w) refl
    where
      go : (b : Bool) → test k w ≡ b → Seen s u os (w ∷ ws)
      go true q = (k, rw (in_cons (test k) (part k) w ws q) (step (rw (v.ran k w s gs q, v.ran k w u gu q) at d)))
      go false q = (k, rw (out_cons (test k) (part k) w ws q) (rw (v.kept k w s q, v.kept k w u q) at d))

  down_other : (s u : S) (o : Operation) (os ws : List Operation) → Good s → Seen (val o s) u os ws → Seen s u (o ∷ os) ws
  down_other s u o os ws gs (k, d) = go (test k o) refl
    where
      go : (b : Bool) → test k o ≡ b → Seen s u (o ∷ os) ws
      go true q = (k, rw (in_cons (test k) (part k) o os q) (runs (rw (v.ran k o s gs q) at d)))
      go false q = (k, rw (out_cons (test k) (part k) o os q) (rw (v.kept k o s q) at d))

  down_skip : (s u : S) (o : Operation) (os ws : List Operation) → Seen s u os ws → Seen s u (o ∷ os) ws
  down_skip s u o os ws (k, d) = go (test k o) refl
    where
      go : (b : Bool) → test k o ≡ b → Seen s u (o ∷ os) ws
      go true q = (k, rw (in_cons (test k) (part k) o os q) (skip d))
      go false q = (k, rw (out_cons (test k) (part k) o os q) d)

  down_here : (s u : S) (w : Operation) (os ws : List Operation) → Good s → Good u → (res w s ≡ res w u → ⊥) → Seen s u os (w ∷ ws)
  down_here s u w os ws gs gu f = let (k, q, n) = v.seen w s u gs gu f in (k, rw (in_cons (test k) (part k) w ws q) (here n))

  down : {s u : S} {os ws : List Operation} → Differs val res s u os ws → Good s → Good u → Seen s u os ws
  down {s} {u} (here {w = w} {os = os} {ws = ws} f) gs gu = down_here s u w os ws gs gu f
  down {s} {u} (step {w = w} {os = os} {ws = ws} d) gs gu = down_own s u w os ws gs gu (down d (v.good w s gs) (v.good w u gu))
  down {s} {u} (skip {o = o} {os = os} {ws = ws} d) gs gu = down_skip s u o os ws (down d gs gu)
  down {s} {u} (runs {o = o} {os = os} {ws = ws} d) gs gu = down_other s u o os ws gs (down d (v.good o s gs) gu)

  -- From what one way sees to the states: the own operations one by one, and for each that passes the others'.
  abbrev Same : K → T → S → Type 0
  Same k x s = (x ≡ look k s) × Good s

  ran_same : (k : K) (e : Operation) (x : T) (s : S) → test k e ≡ true → Same k x s → Same k (val' (part k e) x) (val e s)
  ran_same k e x s q (p, g) = (ap (val' (part k e)) p ∙ sym (v.ran k e s g q), v.good e s g)

  kept_same : (k : K) (e : Operation) (x : T) (s : S) → test k e ≡ false → Same k x s → Same k x (val e s)
  kept_same k e x s q (p, g) = (p ∙ sym (v.kept k e s q), v.good e s g)

  differs_too : (k : K) (e : Operation) (x y : T) (s u : S) → test k e ≡ true → Same k x s → Same k y u → (res' (part k e) x ≡ res' (part k e) y → ⊥) → res e s ≡ res e u → ⊥
  differs_too k e x y s u q (ex, gs) (ey, gu) n p = n (rw (ex, ey) (v.told k e s u q p))

  abbrev Up : K → List Operation → List Operation → Type 0
  Up k ws qs =
      (x y : T) (s u : S) (os ps : List Operation) → Parted (test k) (part k) os ps → Same k x s → Same k y u → Differs val' res' x y ps qs → Differs val res s u os ws

  up_own : (k : K) (w : Operation) (ws qs : List Operation) → test k w ≡ true → Up k ws qs → (x y : T) (s u : S) {os ps : List Operation} → Parted (test k) (part k) os ps → Same k x s → Same k y u
      → Differs val' res' x y ps (part k w ∷ qs) → Differs val res s u os (w ∷ ws)
  up_own k w ws qs q f x y s u none ex ey (here n) = here (differs_too k w x y s u q ex ey n)
  up_own k w ws qs q f x y s u none ex ey (step d) = step (f _ _ (val w s) (val w u) _ _ none (ran_same k w x s q ex) (ran_same k w y u q ey) d)
  up_own k w ws qs q f x y s u (fails p a) ex ey d = skip (up_own k w ws qs q f x y s u a ex ey d)
  up_own k w ws qs q f x y s u (passes p a) ex ey (here n) = here (differs_too k w x y s u q ex ey n)
  up_own k w ws qs q f x y s u (passes p a) ex ey (step d) = step (f _ _ (val w s) (val w u) _ _ (passes p a) (ran_same k w x s q ex) (ran_same k w y u q ey) d)
  up_own k w ws qs q f x y s u (passes p a) ex ey (skip d) = skip (up_own k w ws qs q f x y s u a ex ey d)
  up_own k w ws qs q f x y s u (passes {e = o} p a) ex ey (runs d) = runs (up_own k w ws qs q f (val' (part k o) x) y (val o s) u a (ran_same k o x s p ex) ey d)

  up : (k : K) {ws qs : List Operation} → Parted (test k) (part k) ws qs → Up k ws qs
  up k none x y s u os ps a ex ey d = absurd (no_own val' res' d)
  up k (passes {e = w} {es = ws} {ps = qs} q b) x y s u os ps a ex ey d = up_own k w ws qs q (λ x y s u os ps a ex ey d. up k b x y s u os ps a ex ey d) x y s u a ex ey d
  up k (fails {e = w} q b) x y s u os ps a ex ey d = step (up k b x y (val w s) (val w u) os ps a (kept_same k w x s q ex) (kept_same k w y u q ey) d)

  pub by_parts : (s u : S) (os ws : List Operation) → Good s → Good u
      → Differs val res s u os ws ↔ ((k : K) × Differs val' res' (look k s) (look k u) (parts (test k) (part k) os) (parts (test k) (part k) ws))
  by_parts s u os ws gs gu = (
    (λ d. down d gs gu),
    λ (k, d). up k (parted (test k) (part k) ws) _ _ s u os _ (parted (test k) (part k) os) (refl, gs) (refl, gu) d,
  )
