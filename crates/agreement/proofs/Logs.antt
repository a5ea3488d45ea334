-- Where an event of the trace stands in the log.
use Prim.Native.Nat.{ℕ}
use mathlib.Core.Path.{◌≡◌, refl, sym, ◌∙◌, ap}
use mathlib.Core.Logic.{◌⊎◌, inl, inr}
use mathlib.Core.List.Memᴰ
use mathlib.Core.List.{List, [], ◌∷◌, ◌++◌, Memᴰ}
use Rattle.replica.specs.declared.Replica.{Replica}
use Rattle.replica.specs.Outcome.{Told, opened, invoked, responded, aborted, confirmed, refused, halted}
use Rattle.agreement.specs.WholeRuns.{caller, Logged, took, says}
use Rattle.agreement.proofs.Trace.{At, here, at_cons, Ev, ev_in, ev_of, onto}
use Rattle.agreement.proofs.Runs.{onto_sub}

pub data Single (l : List Ev) : Type 0 where
  none : l ≡ [] → Single l
  one : (x : Ev) → l ≡ x ∷ [] → Single l

single_in : (t : Told) (i : ℕ) (r : Replica) (m : List ℕ) (s : Replica) → Single (ev_in t i r m s)
single_in (invoked n) i r m s = none refl
single_in (responded seq x) i r m s = one _ refl
single_in (aborted seq) i r m s = one _ refl
single_in (confirmed seq x) i r m s = one _ refl
single_in opened i r m s = none refl
single_in (refused n) i r m s = none refl
single_in (halted n) i r m s = none refl

single : (e : Logged) → Single (ev_of e)
unfolding ev_of
single e = single_in (says e) (caller e.call) e.before (took e) e.step.after.replica

pub record Split (es : List Logged) (tr : List Ev) (ev : Ev) (o : List Ev) : Type 0 where
  pub older : List Logged
  pub event : Logged
  pub newer : List Logged
  pub is : es ≡ older ++ (event ∷ newer)
  pub did : ev_of event ≡ ev ∷ []
  pub past : o ≡ onto older tr

pub at_split : (es : List Logged) (tr : List Ev) {ev : Ev} {o : List Ev} → At (onto es tr) ev o → At tr ev o ⊎ Split es tr ev o
unfolding onto
at_split [] tr h = inl h
at_split (e ∷ es) tr {ev} {o} h = go (at_split es (ev_of e ++ tr) h)
  where
    first : Single (ev_of e) → At (ev_of e ++ tr) ev o → At tr ev o ⊎ Split (e ∷ es) tr ev o
    first (none q) a = inl (rw q at a)
    first (one x q) a = pick (at_cons (rw q at a))
      where
        pick : ((x ≡ ev) × (tr ≡ o)) ⊎ At tr ev o → At tr ev o ⊎ Split (e ∷ es) tr ev o
        pick (inl (p, t)) = inr (record { older = []; event = e; newer = es; is = refl; did = q ∙ ap (λ (y : Ev). y ∷ []) p; past = sym t })
        pick (inr b) = inl b

    go : At (ev_of e ++ tr) ev o ⊎ Split es (ev_of e ++ tr) ev o → At tr ev o ⊎ Split (e ∷ es) tr ev o
    go (inl a) = first (single e) a
    go (inr s) = inr (record { older = e ∷ s.older; event = s.event; newer = s.newer; is = ap (λ (l : List Logged). e ∷ l) s.is; did = s.did; past = s.past })

pub log-split : (es : List Logged) {ev : Ev} {o : List Ev} → At (onto es []) ev o → Split es [] ev o
log-split es {ev} {o} h = go (at_split es [] h)
  where
    go : At [] ev o ⊎ Split es [] ev o → Split es [] ev o
    go (inl a) = elim a [ ]
    go (inr s) = s

pub mem_at : (es : List Logged) (tr : List Ev) (e : Logged) {ev : Ev} → Memᴰ e es → ev_of e ≡ ev ∷ [] → (o : List Ev) × At (onto es tr) ev o
unfolding onto
mem_at [] tr e m q = absurd (Memᴰ.not-nil m)
mem_at (x ∷ es) tr e {ev} m q = go (λ m. mem_at es (ev_of x ++ tr) e m q) (Memᴰ.cases_cons m)
  where
    go : (Memᴰ e es → (o : List Ev) × At (onto es (ev_of x ++ tr)) ev o) → (e ≡ x) ⊎ Memᴰ e es → (o : List Ev) × At (onto es (ev_of x ++ tr)) ev o
    go below (inl p) =
        let s : ev_of x ≡ ev ∷ [] = ap ev_of (sym p) ∙ q in
        let a : At (ev_of x ++ tr) ev tr = rw s here in
        (tr, onto_sub es (ev_of x ++ tr) _ _ a)
    go below (inr m) = below m
