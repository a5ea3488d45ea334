-- "had got": when a client confirms, the authors of all that it has confirmed had got their answers in earlier calls. From `demand`, for the
-- list cut right after that call.
use Prim.Native.Nat.{ℕ}
use mathlib.Core.Path.{◌≡◌, refl, sym, ◌∙◌, ap, subst}
use mathlib.Core.Logic.{◌⊎◌, inl, inr}
use mathlib.Core.Bool.{Bool, true, cond}
use mathlib.Core.List.{List, [], ◌∷◌, ◌++◌, append_assoc, head-eq_of_cons-eq, tail-eq_of_cons-eq}
use mathlib.Core.List.Memᴰ
use mathlib.Core.List.{Memᴰ}
use native.Mathlib.Omega.{arith}
use lib.Dec.{eqb}
use lib.ListN.{length, length-append}
use borrow.Author.Tests.{eq-eqb}
use Rattle.replica.specs.Outcome.{Told, confirmed}
use Rattle.operation.specs.declared.Cells.{Cells}
use Rattle.operation.specs.Operation.{zero_cells}
use Rattle.agreement.specs.WholeRuns.{Call, caller, step_of, World, start, update, Logged, says, run_from, log_of, all_of, taken, Entry, Confirmation, confirmation_of, history, entries, Replied, answer, aside, run_entries, strings, LetOff, collision, forgery, Answered, Agreement, Demand}
use Rattle.agreement.proofs.Agreement.{demand}

-- ---- the list cut after a call
record Cut (w : World) (older : List Logged) (v : Logged) : Type 0 where
  calls : List Call
  is : run_from w calls ≡ older ++ (v ∷ [])

pub not-nil : {A : Type 0} (xs ys : List A) (x : A) → [] ≡ xs ++ (x ∷ ys) → ⊥
not-nil xs ys x q = (let l = length-append xs (x ∷ ys) in let z : 0 ≡ length (xs ++ (x ∷ ys)) = ap length q in absurd (omega arith))

cut : (calls : List Call) (w : World) (older newer : List Logged) (v : Logged) → run_from w calls ≡ older ++ (v ∷ newer) → Cut w older v
unfolding run_from
cut [] w older newer v q = absurd (not-nil older newer v q)
cut (c ∷ cs) w [] newer v q = record { calls = c ∷ []; is = ap (λ (e : Logged). e ∷ []) (head-eq_of_cons-eq q) }
cut (c ∷ cs) w (o ∷ older) newer v q =
    let C = cut cs (update w (caller c) (step_of (w (caller c)) c).after.replica) older newer v (tail-eq_of_cons-eq q) in
    record { calls = c ∷ C.calls; is = λ t. head-eq_of_cons-eq q t ∷ C.is t }

all_append : {A : Type 0} (f : Logged → List A) (a b : List Logged) → all_of f (a ++ b) ≡ all_of f a ++ all_of f b
unfolding all_of
all_append f [] b = refl
all_append f (e ∷ a) b = ap (λ (l : List _). f e ++ l) (all_append f a b) ∙ sym (append_assoc (f e) (all_of f a) (all_of f b))

-- a list that begins with one that is let off is let off
more_off : (keys : List ℕ) (a b : List Logged) → LetOff keys a → LetOff keys (a ++ b)
more_off keys a b (collision s t ms mt n e) = collision s t (more s ms) (more t mt) n e
  where
    more : (s : List ℕ) → Memᴰ s (all_of strings a) → Memᴰ s (all_of strings (a ++ b))
    more s m = subst (λ (l : List (List ℕ)). Memᴰ s l) (sym (all_append strings a b)) (Memᴰ.append_left (all_of strings b) m)
more_off keys a b (forgery older newer e x q h g n) =
    forgery older (newer ++ b) e x (ap (λ (l : List Logged). l ++ b) q ∙ append_assoc older (e ∷ newer) b) h g n

-- ---- the last call
last_conf : (b : Bool) (t : Told) (x : Confirmation) (seq status : ℕ) → b ≡ true → t ≡ confirmed seq status → cond b (taken t [] (x ∷ [])) [] ++ [] ≡ x ∷ []
unfolding taken
last_conf b t x seq status p q = λ i. cond (p i) (taken (q i) [] (x ∷ [])) [] ++ []

no_reply : {t : Told} {seq status : ℕ} → Replied t → confirmed seq status ≡ t → ⊥
no_reply answer q = absurd (let z : ◌≡◌ {A = ℕ} 0 1 = cc q in omega arith)
no_reply aside q = absurd (let z : ◌≡◌ {A = ℕ} 0 1 = cc q in omega arith)

history_last : (i : ℕ) (older : List Logged) (v : Logged) (seq status : ℕ) → caller v.call ≡ i → says v ≡ confirmed seq status
    → history i (older ++ (v ∷ [])) ≡ history i older ++ (confirmation_of v ∷ [])
unfolding history all_of
history_last i older v seq status c q =
    all_append _ older (v ∷ [])
    ∙ ap (λ (l : List Confirmation). history i older ++ l) (last_conf (eqb (caller v.call) i) (says v) (confirmation_of v) seq status (eq-eqb _ _ c) q)

before_last : (older : List Logged) (v : Logged) (e : Entry) (cells : Cells) (seq status : ℕ) → says v ≡ confirmed seq status
    → Answered (older ++ (v ∷ [])) e cells → Answered older e cells
before_last older v e cells seq status q A =
    record {
      had = (A.had.0, go (Memᴰ.append_cases older A.had.1), A.had.2);
      only = λ {op} {t} {v = x} m g c. A.only (Memᴰ.append_left (v ∷ []) m) g c;
    }
  where
    go : Memᴰ A.had.0 older ⊎ Memᴰ A.had.0 (v ∷ []) → Memᴰ A.had.0 older
    go (inl m) = m
    go (inr m) =
        absurd (no_reply A.had.2.reply (sym q ∙ ap says (sym (Memᴰ.eq_of_singleton m)) ∙ A.had.2.told))

-- of a call v that confirmed: for each entry that its client has confirmed up to and with it, its author had got what is due, before v
pub answered-before : (keys : List ℕ) (calls : List Call) → (LetOff keys (log_of keys calls) → ⊥)
    → (older newer : List Logged) (v : Logged) → log_of keys calls ≡ older ++ (v ∷ newer) → (seq status : ℕ) → says v ≡ confirmed seq status
    → (before after : List Entry) (e : Entry) → entries (history (caller v.call) older ++ (confirmation_of v ∷ [])) ≡ before ++ (e ∷ after)
    → Answered older e (run_entries before zero_cells)
unfolding log_of Demand Agreement
answered-before keys calls N older newer v is seq status q before after e split =
    before_last older v e (run_entries before zero_cells) seq status q
    (subst (λ (log : List Logged). Answered log e (run_entries before zero_cells)) C.is
    ((demand keys C.calls off i i xs [] xs [] (confirmation_of v) (confirmation_of v) confirmed_it confirmed_it refl refl).answers before after e split))
  where
    C : Cut (start keys) older v
    C = cut calls (start keys) older newer v is

    i : ℕ
    i = caller v.call

    xs : List Confirmation
    xs = history (caller v.call) older

    joined : (older ++ (v ∷ [])) ++ newer ≡ run_from (start keys) calls
    joined = append_assoc older (v ∷ []) newer ∙ sym is

    off : LetOff keys (run_from (start keys) C.calls) → ⊥
    off L =
        N (subst (LetOff keys) joined (more_off keys (older ++ (v ∷ [])) newer (subst (LetOff keys) C.is L)))

    confirmed_it : history (caller v.call) (run_from (start keys) C.calls) ≡ history (caller v.call) older ++ (confirmation_of v ∷ [])
    confirmed_it = ap (history (caller v.call)) C.is ∙ history_last (caller v.call) older v seq status refl q
