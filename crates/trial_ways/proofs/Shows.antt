-- How the program's state shows a world of a run: the working relation of the theorem on trials.
use Prim.Native.Nat.{ℕ, zero, suc, ◌+◌, ◌<◌, ◌≤◌}
use mathlib.Core.Path.{◌≡◌, refl, sym, ap, subst, ◌∙◌}
use mathlib.Core.List.{List, [], ◌∷◌}
use mathlib.Core.Bool.{Bool, true, false, cond, true≢false}
use lib.ListN.{length, get_or, set}
use lib.Seq.{get_or-set_same, get_or-set_other}
use native.Mathlib.Omega.{arith}
use native.Mathlib.Decide.{ℕ_discrete}
use Rattle.message.specs.Message.{is_invoke}
use Rattle.replica.specs.declared.Replica.{Replica}
use Rattle.replica.specs.Replica.{zero_replica}
use Rattle.progress.specs.HonestRuns.{World, Line, update}
use Rattle.progress.proofs.Acting.{update_same, update_other}
use Rattle.trial_core.specs.Trial.{Lent, queued_reply, kept_invoke}
use Rattle.trial_core.specs.declared.Lines.{Lines}
use Rattle.trial_ways.proofs.Ways.{Way, Quiet}

-- the line to one client and the line from it, which holds at most an invoke that the server refused
pub record Client (log : List ℕ) (passed next before len : ℕ) (reply : List ℕ) (refused : Bool) (invoke : List ℕ) (u d : Line) : Type 0 where
  pub way : Way log passed next before len reply d
  pub quiet : Quiet log next passed
  pub waits : u ≡ cond refused (invoke ∷ []) []
  pub asks : refused ≡ true → is_invoke invoke ≡ true

-- client i + 1
abbrev pub ClientAt : Lines → Lent → World → ℕ → Type 0
ClientAt l b w i =
    Client b.log w.server.passed (get_or l.next i 0) (get_or l.before i 0) (get_or l.lengths i 0) (queued_reply l b.replies i)
    (get_or l.refused i false) (kept_invoke b.invokes i) (w.up (i + 1)) (w.down (i + 1))

pub record Sizes (rs : List Replica) (l : Lines) (b : Lent) : Type 0 where
  pub replicas : length rs ≡ 8
  pub next : length l.next ≡ 8
  pub before : length l.before ≡ 8
  pub lengths : length l.lengths ≡ 8
  pub refused : length l.refused ≡ 8
  pub log : length b.log ≡ 40960
  pub replies : length b.replies ≡ 10520
  pub invokes : length b.invokes ≡ 344

-- how many invokes wait
unfoldable pub trues : List Bool → ℕ
trues [] = 0
trues (x ∷ xs) = cond x 1 0 + trues xs

-- no client is more than 295 behind what is placed or waits to be
pub record Shows (rs : List Replica) (l : Lines) (b : Lent) (w : World) : Type 0 where
  pub sizes : Sizes rs l b
  pub replica : (i : ℕ) → i < 8 → get_or rs i zero_replica ≡ w.replica (i + 1)
  pub client : (i : ℕ) → i < 8 → ClientAt l b w i
  pub bound : (i : ℕ) → i < 8 → w.server.placed + trues l.refused ≤ get_or l.next i 0 + 295

-- ---- laws
pub trues_few : (xs : List Bool) → trues xs ≤ length xs
unfolding trues
trues_few [] = omega arith
trues_few (true ∷ xs) = let h = trues_few xs in omega arith
trues_few (false ∷ xs) = let h = trues_few xs in omega arith

pub trues_less : (xs : List Bool) (i : ℕ) → get_or xs i false ≡ true → trues xs ≡ suc (trues (set xs i false))
unfolding trues
trues_less [] i e = absurd (true≢false (sym e))
trues_less (x ∷ xs) zero e = rw e (omega arith)
trues_less (x ∷ xs) (suc i) e = let h = trues_less xs i e in omega arith

by_dec : (P : ℕ → Type 0) (i j : ℕ) → P i → ((j ≡ i → ⊥) → P j) → Dec (j ≡ i) → P j
by_dec P i j p f (yes e) = subst P (sym e) p
by_dec P i j p f (no n) = f n

-- of one client, and of the others
pub by_client : (P : ℕ → Type 0) (i : ℕ) → P i → ((j : ℕ) → j < 8 → (j ≡ i → ⊥) → P j) → (j : ℕ) → j < 8 → P j
by_client P i p f j h = by_dec P i j p (f j h) (ℕ_discrete j i)

-- a replica is new
pub replica_set : (rs : List Replica) (f : ℕ → Replica) (i : ℕ) (r : Replica) → length rs ≡ 8 → ((j : ℕ) → j < 8 → get_or rs j zero_replica ≡ f (j + 1))
    → i < 8 → (j : ℕ) → j < 8 → get_or (set rs i r) j zero_replica ≡ update f (i + 1) r (j + 1)
replica_set rs f i r z S h =
    by_client (λ (j : ℕ). get_or (set rs i r) j zero_replica ≡ update f (i + 1) r (j + 1)) i
    (get_or-set_same rs i r zero_replica (omega arith) ∙ sym (update_same f (i + 1) (i + 1) r refl))
    (λ j g e. get_or-set_other rs i j r zero_replica e ∙ S j g ∙ sym (update_other f (i + 1) (j + 1) r (λ q. e (omega arith))))

update_dec : {A : Type 0} (f : ℕ → A) (n k : ℕ) (x : A) → f n ≡ x → Dec (k ≡ n) → update f n x k ≡ f k
update_dec f n k x e (yes q) = update_same f n k x q ∙ sym e ∙ ap f (sym q)
update_dec f n k x e (no q) = update_other f n k x q

-- an update that changes nothing
pub update_idle : {A : Type 0} (f : ℕ → A) (n k : ℕ) (x : A) → f n ≡ x → update f n x k ≡ f k
update_idle f n k x e = update_dec f n k x e (ℕ_discrete k n)
