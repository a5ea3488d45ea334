-- What the server's calls of a trial come to. Assumes nothing.
use Prim.Native.Nat.{ℕ, suc, ◌+◌, ◌*◌, ◌<◌, ◌≤◌}
use mathlib.Core.Path.{◌≡◌, refl, sym, ap, subst, ◌∙◌}
use mathlib.Core.Logic.{◌⊎◌, inl, inr, ⊎_elim}
use mathlib.Core.List.{List, [], ◌∷◌}
use mathlib.Core.Bool.{true, false, true≢false}
use lib.ListN.{length, length-take, length-drop}
use native.Mathlib.Omega.{arith}
use borrow.Author.Tests.{le-leb, lt-ltb}
use Rattle.message.specs.declared.Item.{Item}
use Rattle.message.specs.Message.{is_invoke, is_broadcast, marked, item_at, commit_of, reply_bytes, items_bytes}
use Rattle.server.specs.declared.Server.{Server}
use Rattle.server.specs.Server as Sv
use Rattle.server.specs.Server.{ServerTold, pending, slot_of, slot_items, due_count, broadcasts, placed_server, stored_server, passed_server, placed_step, passed_step, committed_step, stop_step, server_step}
use Rattle.server_broadcast.proofs.Laws.{broadcasts-length}
use Rattle.server_laws.proofs.State.{Sizes, stored_sizes, due_32}
use Rattle.server_laws.proofs.Range.{ranged}
use Rattle.server_laws.proofs.Checks.{Placeable, Storable, server_cases}
use Rattle.progress.specs.HonestRuns.{written}
use Rattle.trial_core.specs.Trial.{has_place}

-- an invoke is placed: its reply is written
pub record Placing (s : Server) (y : Sv.Step) : Type 0 where
  pub room : has_place s ≡ true
  pub says : y.says ≡ Sv.placed (s.placed + 1)
  pub placed : y.server.placed ≡ s.placed + 1
  pub passed : y.server.passed ≡ s.passed
  pub other : is_broadcast y.wrote ≡ false
  pub one : written y.wrote ≡ y.wrote ∷ []

-- a commit is stored, and k broadcasts are written
pub record Passing (s : Server) (m : List ℕ) (y : Sv.Step) (k : ℕ) : Type 0 where
  pub long : length m ≡ 80
  pub says : y.says ≡ Sv.broadcast k
  pub placed : y.server.placed ≡ s.placed
  pub passed : y.server.passed ≡ s.passed + k
  pub few : k ≤ 32
  pub wrote : length y.wrote ≡ k * 80

-- ---- an invoke
has_place_lem : (s : Server) (n : ℕ) (m : List ℕ) → Placeable s n m → has_place s ≡ true
unfolding has_place
has_place_lem s n m P = let r = ranged s P.range in rw (le-leb _ _ r.order, lt-ltb _ _ P.few, lt-ltb _ _ P.early)

reply_other : (is : List Item) → is_broadcast (reply_bytes is) ≡ false
unfolding is_broadcast marked reply_bytes
reply_other is = rw (le-leb 2 (suc (suc (suc (length (items_bytes is))))) (omega arith))

reply_one : (is : List Item) → written (reply_bytes is) ≡ reply_bytes is ∷ []
unfolding written reply_bytes
reply_one is = refl

placing : (s : Server) (n : ℕ) (m : List ℕ) (i : Item) → Placeable s n m → Placing s (placed_step s i)
unfolding placed_step placed_server
placing s n m i P =
    record {
      room = has_place_lem s n m P;
      says = refl;
      placed = refl;
      passed = refl;
      other = reply_other (slot_items (placed_server s i) (pending s + 1));
      one = reply_one (slot_items (placed_server s i) (pending s + 1));
    }

pub invoke-call : (s : Server) (n : ℕ) (m : List ℕ) (room : ℕ) → is_invoke m ≡ true
    → Placing s (server_step s n m room) ⊎ ((x : ℕ) × (server_step s n m room ≡ stop_step s x))
invoke-call s n m room e =
    server_cases s n m room (λ (y : Sv.Step). Placing s y ⊎ ((x : ℕ) × (y ≡ stop_step s x)))
    (λ P. inl (placing s n m (item_at m 2) P))
    (λ P. absurd (true≢false (sym e ∙ P.form)))
    (λ x. inr (x, refl))

-- where the server has no place to give, it refuses every invoke
pub no_place : (s : Server) (n : ℕ) (m : List ℕ) (room : ℕ) → is_invoke m ≡ true → has_place s ≡ false → (x : ℕ) × (server_step s n m room ≡ stop_step s x)
no_place s n m room e f =
    ⊎_elim
    (λ (P : Placing s (server_step s n m room)). absurd (true≢false (sym P.room ∙ f)))
    (λ (q : (x : ℕ) × (server_step s n m room ≡ stop_step s x)). q)
    (invoke-call s n m room e)

-- ---- a commit
abbrev count_of : ServerTold → ℕ
count_of (Sv.placed x) = 0
count_of (Sv.broadcast x) = x
count_of (Sv.refused x) = 0

abbrev Passes : ServerTold → Type 0
Passes (Sv.placed x) = ⊥
Passes (Sv.broadcast x) = Unit {0}
Passes (Sv.refused x) = ⊥

commit_parts : (m : List ℕ) → length m ≡ 80 → (length (commit_of m).digest ≡ 32) × (length (commit_of m).tag ≡ 32)
unfolding commit_of
commit_parts m l = (simp (length-take, length-drop) (omega arith), simp (length-take, length-drop) (omega arith))

due-long : (s : Server) (n : ℕ) (m : List ℕ) → Sizes s → Storable s n m
    → length (broadcasts (stored_server s (commit_of m)) (due_count (stored_server s (commit_of m)))) ≡ due_count (stored_server s (commit_of m)) * 80
due-long s n m Z P =
    let k = commit_of m in
    let l = commit_parts m P.long in
    let inside : slot_of s k < pending s = omega (arith, P.place.above, P.place.below) in
    let T = stored_sizes s Z (ranged s P.range).few k inside l.0 l.1 in
    broadcasts-length (stored_server s k) T.digests T.tags (due_count (stored_server s k)) (due_32 s k Z.statuses)

passing : (s : Server) (n : ℕ) (m : List ℕ) → Sizes s → Storable s n m → Passing s m (committed_step s (commit_of m)) (due_count (stored_server s (commit_of m)))
unfolding committed_step passed_step passed_server stored_server
passing s n m Z P =
    record {
      long = P.long;
      says = refl;
      placed = refl;
      passed = refl;
      few = due_32 s (commit_of m) Z.statuses;
      wrote = due-long s n m Z P;
    }

passing_is : (s : Server) (m : List ℕ) (y : Sv.Step) (j k : ℕ) → Passing s m y j → y.says ≡ Sv.broadcast k → Passing s m y k
passing_is s m y j k P e = subst (Passing s m y) (ap count_of (sym P.says ∙ e)) P

pub commit_call : (s : Server) (n : ℕ) (m : List ℕ) (room k : ℕ) → Sizes s → (server_step s n m room).says ≡ Sv.broadcast k → Passing s m (server_step s n m room) k
unfolding placed_step
commit_call s n m room k Z =
    server_cases s n m room (λ (y : Sv.Step). y.says ≡ Sv.broadcast k → Passing s m y k)
    (λ P e. absurd (subst Passes (sym e) tt))
    (λ P e. passing_is s m (committed_step s (commit_of m)) (due_count (stored_server s (commit_of m))) k (passing s n m Z P) e)
    (λ x e. absurd (subst Passes (sym e) tt))
