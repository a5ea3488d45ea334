-- Where an added field stands in the bytes of its line. Assumes nothing.
use Prim.Native.Nat.{ℕ, zero, suc}
use mathlib.Core.Path.{◌≡◌, refl, sym, subst}
use mathlib.Core.List.{List, [], ◌∷◌, ◌++◌, append-nil, append_assoc}
use Rattle.log_quotes.specs.Quotes.{start, fields}
use Rattle.meter_log_laws.specs.Added.{insert_at, comma_each, join, add_at}
use Rattle.meter_log_laws.proofs.Put.{Some, some, split-some, each-join, join-split}

-- the bytes `new f` are those of `old` with f in no place, with `f,` between two parts, or with `,f` after them
pub data Spot (old : List ℕ) (new : List ℕ → List ℕ) : Type 0 where
  nowhere : ((f : List ℕ) → new f ≡ old) → Spot old new
  before : (u v : List ℕ) → old ≡ u ++ v → ((f : List ℕ) → new f ≡ u ++ (f ++ (44 ∷ v))) → Spot old new
  after : ((f : List ℕ) → new f ≡ old ++ (44 ∷ f)) → Spot old new

-- with bytes in front
spot_more : (p : List ℕ) {old : List ℕ} {new : List ℕ → List ℕ} → Spot old new → Spot (p ++ old) (λ f. p ++ new f)
spot_more p (nowhere e) = nowhere (λ f. rw (e f))
spot_more p (before u v o e) = before (p ++ u) v (rw o (sym (append_assoc p u v))) (λ f. rw (e f) (sym (append_assoc p u (f ++ (44 ∷ v)))))
spot_more p {old} (after e) = after (λ f. rw (e f) (sym (append_assoc p old (44 ∷ f))))

each_spot : (k : ℕ) (gs : List (List ℕ)) → Spot (comma_each gs) (λ f. comma_each (insert_at k f gs))
unfolding comma_each insert_at
each_spot zero [] = after (λ f. rw (append-nil f))
each_spot zero (g ∷ gs) = before (44 ∷ []) (g ++ comma_each gs) refl (λ f. refl)
each_spot (suc k) [] = nowhere (λ f. refl)
each_spot (suc k) (g ∷ gs) = spot_more (44 ∷ g) (each_spot k gs)

join_spot : (k : ℕ) (gs : List (List ℕ)) → Some gs → Spot (join gs) (λ f. join (insert_at k f gs))
unfolding join insert_at
join_spot (suc k) [] s = elim s [ ]
join_spot zero gs s = before [] (join gs) refl (λ f. rw (each-join gs s))
join_spot (suc k) (g ∷ gs) some = spot_more g (each_spot k gs)

-- a field added at position k stands in one of these ways, the same for every field
pub add_spot : (k : ℕ) (l : List ℕ) → Spot l (λ f. add_at k f l)
unfolding add_at
add_spot k l = subst (λ (x : List ℕ). Spot x (λ f. join (insert_at k f (fields l)))) (join-split start l) (join_spot k (fields l) (split-some start l))
