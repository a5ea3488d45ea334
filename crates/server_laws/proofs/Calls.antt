-- Every call of the server keeps check 8 and the lengths of its arrays. Assumes nothing.
use Prim.Native.Nat.{ℕ, zero, suc, ◌-◌, ◌<◌}
use mathlib.Core.Path.{◌≡◌, refl}
use mathlib.Core.List.{List}
use mathlib.Core.Bool.{true}
use lib.Dec.{leb}
use lib.ListN.{length, length-take, length-drop, length-replicate, get_or, replicate}
use native.Mathlib.Omega.{arith}
use Rattle.slices.specs.Bytes.{is_zero}
use Rattle.slices.proofs.Laws.{all_replicate}
use Rattle.message.specs.Readers.{ItemFits}
use Rattle.message.specs.Message.{is_invoke, item_at, commit_of}
use Rattle.message.proofs.Laws.{invoke_length_lem}
use Rattle.round_trips.proofs.Operations.{ok_fits}
use Rattle.server.specs.declared.Server.{Server}
use Rattle.server.specs.Server.{fresh_server, last_count, passed_step, pending, item_ok, slot_of, due_count, stored_server, placed_step, committed_step, server_step}
use Rattle.server.specs.Server as Sv
use Rattle.server_laws.proofs.Slots.{leading-few}
use Rattle.server_laws.proofs.State.{Sizes}
use Rattle.server_laws.proofs.Range.{Sound, item_count}
use Rattle.server_laws.proofs.Sound.{placed-sound, stored_sound, passed_sound}
use Rattle.server_laws.proofs.Checks.{Placeable, Storable, server_cases}

-- ---- a fresh server
pub fresh_sizes : Sizes fresh_server
fresh_sizes =
    record {
      counts = refl;
      items = length-replicate {A = ℕ} 1312 0;
      statuses = refl;
      digests = length-replicate {A = ℕ} 1024 0;
      tags = length-replicate {A = ℕ} 1024 0;
    }

pub fresh_sound : Sound fresh_server
fresh_sound =
    record {
      range = record {
        order = omega arith;
        early = omega arith;
        few = omega arith;
        counts = all_replicate (λ x. leb x 1000000) 8 0 refl;
        statuses = all_replicate (λ x. leb x 2) 32 0 refl;
        slots = λ k h. absurd (omega arith);
        items = all_replicate is_zero 1312 0 refl;
        unused = all_replicate is_zero 32 0 refl;
        digests = all_replicate is_zero 1024 0 refl;
        tags = all_replicate is_zero 1024 0 refl;
      };
      sizes = fresh_sizes;
    }

get_replicate : (n k x : ℕ) → get_or (replicate n x) k x ≡ x
get_replicate zero k x = refl
get_replicate (suc n) zero x = refl
get_replicate (suc n) (suc k) x = get_replicate n k x

pub fresh_count : (n : ℕ) → last_count fresh_server n ≡ 0
fresh_count n = get_replicate 8 (n - 1) 0

-- ---- the call
tag-long : (m : List ℕ) → length m ≡ 43 → length (item_at m 2).tag ≡ 32
unfolding item_at
tag-long m l = simp (length-take, length-drop) (omega arith)

item_fits : (m : List ℕ) → is_invoke m ≡ true → item_ok (item_at m 2) ≡ true → ItemFits (item_at m 2)
item_fits m e h = record { count = ok_fits (item_at m 2).op (item_count (item_at m 2) h); tag = tag-long m (invoke_length_lem m e) }

pub commit_long : (m : List ℕ) → length m ≡ 80 → (length (commit_of m).digest ≡ 32) × (length (commit_of m).tag ≡ 32)
unfolding commit_of
commit_long m l = (simp (length-take, length-drop) (omega arith), simp (length-take, length-drop) (omega arith))

module _ (s : Server) (S : Sound s) (n : ℕ) (m : List ℕ) where
  invoke-sound : Placeable s n m → Sound (placed_step s (item_at m 2)).server
  unfolding placed_step
  invoke-sound p = placed-sound s S (item_at m 2) p.few p.early p.item (item_fits m p.form p.item)

  commit_sound : Storable s n m → Sound (committed_step s (commit_of m)).server
  unfolding committed_step passed_step
  commit_sound p =
      let k = commit_of m in
      let l = commit_long m p.long in
      let inside : slot_of s k < pending s = omega (arith, p.place.above, p.place.below) in
      let t = stored_server s k in
      let T = stored_sound s S k inside l.0 l.1 in
      passed_sound t T (due_count t) (leading-few t.statuses (pending t) T.range.unused)

  pub server-sound : (room : ℕ) → Sound (server_step s n m room).server
  server-sound room = server_cases s n m room (λ (y : Sv.Step). Sound y.server) invoke-sound commit_sound (λ x. S)
