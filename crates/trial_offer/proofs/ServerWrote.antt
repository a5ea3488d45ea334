-- What the server writes: a reply is 41 bytes for each item that its third byte counts, and 3; a broadcast is 80 bytes. Assumes nothing.
use Prim.Native.Nat.{ℕ, ◌+◌, ◌*◌, ◌<◌, ◌≤◌}
use mathlib.Core.Path.{◌≡◌, sym, ◌∙◌}
use mathlib.Core.List.{List}
use mathlib.Core.Bool.{true, true≢false}
use lib.ListN.{length, get_or, length-take, length-drop}
use native.Mathlib.Omega.{arith}
use Rattle.slices.proofs.Laws.{put-length}
use Rattle.message.specs.declared.Item.{Item}
use Rattle.message.specs.Message.{item_bytes, reply_bytes, is_invoke, item_at, commit_of}
use Rattle.message.proofs.Laws.{item_length_lem, invoke_length_lem}
use Rattle.server.specs.declared.Server.{Server}
use Rattle.server.specs.Server.{Step, pending, slot_items, slot_of, due_count, placed_server, placed_step, stored_server, broadcasts, passed_step, committed_step, server_step}
use Rattle.server.proofs.Laws.{ranged}
use Rattle.server_laws.proofs.State.{Sizes, stored_sizes, due_32}
use Rattle.server_laws.proofs.Checks.{Placeable, Storable, server_cases}
use Rattle.server_laws.proofs.Calls.{commit_long}
use Rattle.server_invoke.specs.Invoke.{items_in}
use Rattle.server_invoke.proofs.Laws.{items_in_lem, items_count, reply-length}
use Rattle.server_broadcast.proofs.Laws.{broadcasts-length}
use Rattle.trial_core.specs.Trial.{is_placed, broadcast_count}

pub record Wrote (q : Step) : Type 0 where
  pub reply : is_placed q.says ≡ true → length q.wrote ≡ 3 + get_or q.wrote 2 0 * 41
  pub sent : broadcast_count q.says * 80 ≤ length q.wrote

-- ---- an invoke
item_tag_lem : (m : List ℕ) → is_invoke m ≡ true → length (item_at m 2).tag ≡ 32
unfolding item_at
item_tag_lem m e = simp (length-take, length-drop) (omega (arith, invoke_length_lem m e))

items_long : (s : Server) (i : Item) → length s.items ≡ 1312 → length i.tag ≡ 32 → pending s < 32 → length (placed_server s i).items ≡ 1312
unfolding placed_server
items_long s i z t few = put-length s.items (item_bytes i) (pending s * 41) (omega (arith, item_length_lem i t)) ∙ z

module _ (s : Server) (Z : Sizes s) (line : ℕ) (m : List ℕ) where
  placed-wrote : Placeable s line m → Wrote (placed_step s (item_at m 2))
  unfolding placed_step reply_bytes
  placed-wrote p =
      let t = placed_server s (item_at m 2) in
      let n : ℕ = pending s + 1 in
      let k : n * 41 ≤ length t.items = omega (arith, p.few, items_long s (item_at m 2) Z.items (item_tag_lem m p.form) p.few) in
      let e : slot_items t n ≡ items_in t.items n = items_in_lem t n in
      record { reply = λ b. rw (e, items_count t.items n) (reply-length t.items n k); sent = omega arith }

  -- ---- a commit
  stored_wrote : Storable s line m → Wrote (committed_step s (commit_of m))
  unfolding committed_step passed_step
  stored_wrote p =
      let k = commit_of m in
      let few = (ranged s p.range).few in
      let inside : slot_of s k < pending s = omega (arith, p.place.above, p.place.below) in
      let l = commit_long m p.long in
      let t = stored_sizes s Z few k inside l.0 l.1 in
      let n : ℕ = due_count (stored_server s k) in
      let b : length (broadcasts (stored_server s k) n) ≡ n * 80 = broadcasts-length (stored_server s k) t.digests t.tags n (due_32 s k Z.statuses) in
      record { reply = λ e. absurd (true≢false (sym e)); sent = omega (arith, b) }

  pub server-wrote : (room : ℕ) → Wrote (server_step s line m room)
  server-wrote room =
      server_cases s line m room Wrote placed-wrote stored_wrote
      (λ x. record { reply = λ e. absurd (true≢false (sym e)); sent = omega arith })
