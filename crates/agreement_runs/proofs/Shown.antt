-- For a log that is given event by event: which chain strings it shows, and which tags it finds.
use Prim.Native.Nat.{ℕ}
use mathlib.Core.Path.{◌≡◌, refl, sym, ◌∙◌, ap, subst}
use mathlib.Core.Logic.{◌⊎◌, inl, inr}
use mathlib.Core.List.{List, [], ◌∷◌, ◌++◌, append_assoc, append-nil, head-eq_of_cons-eq, tail-eq_of_cons-eq}
use mathlib.Core.List.Memᴰ
use mathlib.Core.List.{Memᴰ}
use Rattle.sha256.specs.Sha256.{sha256}
use Rattle.agreement.specs.WholeRuns.{Call, caller, step_of, World, update, Logged, run_from, all_of, strings, Carried, tags, Tagged, LetOff, collision, forgery}
use Rattle.agreement.proofs.Earlier.{not-nil}

pub data All {A : Type 0} (P : A → Type 0) : List A → Type 0 where
  none : All P []
  more : {x : A} {xs : List A} → P x → All P xs → All P (x ∷ xs)

all_in : {A : Type 0} {P : A → Type 0} {xs : List A} {x : A} → All P xs → Memᴰ x xs → P x
all_in none m = absurd (Memᴰ.not-nil m)
all_in {A} {P} {x = x} (more {x = y} {xs = xs} p a) m = go (λ m. all_in a m) (Memᴰ.cases_cons m)
  where
    go : (Memᴰ x xs → P x) → (x ≡ y) ⊎ Memᴰ x xs → P x
    go below (inl q) = subst P (sym q) p
    go below (inr m) = below m

-- an event after those of older: its strings are among Ss, and P holds of its tags
pub record Shows (P : List Logged → Carried → Type 0) (Ss : List (List ℕ)) (older : List Logged) (e : Logged) : Type 0 where
  pub ss : List (List ℕ)
  pub strs : strings e ≡ ss
  pub known : All (λ s. Memᴰ s Ss) ss
  pub xs : List Carried
  pub tgs : tags e ≡ xs
  pub each : All (P older) xs

pub data Good (P : List Logged → Carried → Type 0) (Ss : List (List ℕ)) : List Logged → List Logged → Type 0 where
  end : {older : List Logged} → Good P Ss older []
  next : {older es : List Logged} {e : Logged} → Shows P Ss older e → Good P Ss (older ++ (e ∷ [])) es → Good P Ss older (e ∷ es)

module _ {P : List Logged → Carried → Type 0} {Ss : List (List ℕ)} where
  pub good_strings : {older log : List Logged} → Good P Ss older log → (s : List ℕ) → Memᴰ s (all_of strings log) → Memᴰ s Ss
  unfolding all_of
  good_strings end s m = absurd (Memᴰ.not-nil m)
  good_strings {log = e ∷ es} (next h g) s m = go (good_strings g s) (Memᴰ.append_cases (strings e) m)
    where
      go : (Memᴰ s (all_of strings es) → Memᴰ s Ss) → Memᴰ s (strings e) ⊎ Memᴰ s (all_of strings es) → Memᴰ s Ss
      go below (inl m) = all_in h.known (subst (λ (l : List (List ℕ)). Memᴰ s l) h.strs m)
      go below (inr m) = below m

  good_at : {older log : List Logged} → Good P Ss older log → (o n : List Logged) (e : Logged) (x : Carried) → log ≡ o ++ (e ∷ n) → Memᴰ x (tags e) → P (older ++ o) x
  good_at end o n e x q m = absurd (not-nil o n e q)
  good_at {older} (next {e = f} h g) [] n e x q m =
      let p : tags e ≡ h.xs = ap tags (sym (head-eq_of_cons-eq q)) ∙ h.tgs in
      subst (λ (l : List Logged). P l x) (sym (append-nil older)) (all_in h.each (subst (λ (l : List Carried). Memᴰ x l) p m))
  good_at {older} (next {e = f} h g) (y ∷ o) n e x q m =
      subst (λ (l : List Logged). P l x)
      (append_assoc older (f ∷ []) o ∙ ap (λ (f : Logged). older ++ (f ∷ o)) (head-eq_of_cons-eq q))
      (good_at g o n e x (tail-eq_of_cons-eq q) m)

  pub good_tags : {log : List Logged} → Good P Ss [] log → (o n : List Logged) (e : Logged) (x : Carried) → log ≡ o ++ (e ∷ n) → Memᴰ x (tags e) → P o x
  good_tags g o n e x q m = good_at g o n e x q m

-- two strings with different digests
pub distinct : (S T s t : List ℕ) → (sha256 S ≡ sha256 T → ⊥) → Memᴰ s (S ∷ T ∷ []) → Memᴰ t (S ∷ T ∷ []) → sha256 s ≡ sha256 t → s ≡ t
distinct S T s t d a b e = go (two s a) (two t b)
  where
    two : (s : List ℕ) → Memᴰ s (S ∷ T ∷ []) → (s ≡ S) ⊎ (s ≡ T)
    two s m = pick (Memᴰ.cases_cons m)
      where
        pick : (s ≡ S) ⊎ Memᴰ s (T ∷ []) → (s ≡ S) ⊎ (s ≡ T)
        pick (inl q) = inl q
        pick (inr n) = inr (Memᴰ.eq_of_singleton n)

    go : (s ≡ S) ⊎ (s ≡ T) → (t ≡ S) ⊎ (t ≡ T) → s ≡ t
    go (inl p) (inl q) = p ∙ sym q
    go (inr p) (inr q) = p ∙ sym q
    go (inl p) (inr q) = absurd (d (sym (ap sha256 p) ∙ e ∙ ap sha256 q))
    go (inr p) (inl q) = absurd (d (sym (ap sha256 q) ∙ sym e ∙ ap sha256 p))

-- not let off
pub not_off : (keys : List ℕ) (S T : List ℕ) (log : List Logged) → (sha256 S ≡ sha256 T → ⊥)
    → Good (λ older x. Tagged keys older x.author x.string) (S ∷ T ∷ []) [] log → LetOff keys log → ⊥
not_off keys S T log d g (collision s t a b n e) = n (distinct S T s t d (good_strings g s a) (good_strings g t b) e)
not_off keys S T log d g (forgery older newer e x q m h n) = n (good_tags g older newer e x q m)

-- ---- a run, call by call
pub data Run : World → List Call → List Logged → Type 0 where
  done : {w : World} → Run w [] []
  call : {w : World} {c : Call} {cs : List Call} {e : Logged} {es : List Logged} → w (caller c) ≡ e.before → step_of e.before c ≡ e.step → c ≡ e.call
      → Run (update w (caller c) e.step.after.replica) cs es → Run w (c ∷ cs) (e ∷ es)

pub run_is : {w : World} {cs : List Call} {es : List Logged} → Run w cs es → run_from w cs ≡ es
unfolding run_from
run_is done = refl
run_is (call {w = w} {c = c} {cs = cs} {e = e} {es = es} p q r rest) =
    let s : step_of (w (caller c)) c ≡ e.step = ap (λ r. step_of r c) p ∙ q in
    (λ t. record { call = r t; before = p t; step = s t } ∷ run_from (update w (caller c) (s t).after.replica) cs)
    ∙ ap (λ (l : List Logged). e ∷ l) (run_is rest)
