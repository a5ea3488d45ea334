-- Laws of taking a broadcast: what a success implies, and what each case comes to. Assumes nothing.
use Prim.Native.Nat.{ℕ, ◌+◌, ◌<◌, ◌≤◌}
use mathlib.Core.Path.{◌≡◌, refl}
use mathlib.Core.List.{List, [], ◌∷◌, ◌++◌}
use mathlib.Core.Bool.{true, false}
use lib.Dec.{leb, eqb}
use lib.ListN.{length}
use native.Mathlib.Omega.{arith}
use borrow.Author.Tests.{leb-true, eqb-true}
use Rattle.slices.proofs.Laws.{same_yes}
use Rattle.operation.specs.Operation.{op_ok}
use Rattle.message.specs.declared.Commit.{Commit}
use Rattle.message.specs.Message.{is_broadcast, commit_of}
use Rattle.message.proofs.Laws.{broadcast-length}
use Rattle.verify.specs.Verify.{commit_tag_ok}
use Rattle.replica.specs.declared.Replica.{Replica}
use Rattle.replica.specs.Outcome.{confirmed}
use Rattle.checks.proofs.Laws.{all_yes, every_yes, and_yes}
use Rattle.replica.specs.Replica.{stop, in_range}
use Rattle.message.specs.Content.{commit_ok}
use Rattle.client_broadcast.specs.Broadcast.{next_value, digest_ok, form_checks, content_checks, proof_checks, broadcast_no, confirmed_replica, broadcast_step}

-- what an allowed commit has
pub record Allowed (k : Commit) : Type 0 where
  pub op : op_ok k.op ≡ true
  pub low : 1 ≤ k.author
  pub high : k.author ≤ 8
  pub status : k.status ≤ 1

pub commit_allowed : (k : Commit) → commit_ok k ≡ true → Allowed k
unfolding commit_ok
commit_allowed k e =
    let z = (every_yes true (op_ok k.op ∷ leb 1 k.author ∷ leb k.author 8 ∷ leb k.status 1 ∷ []) e).1 in
    record { op = z.0; low = leb-true _ _ z.1.0; high = leb-true _ _ z.1.1.0; status = leb-true _ _ z.1.1.1.0 }

-- a digest that passes check 23 is the next chain value
pub next_is : (r : Replica) (k : Commit) → digest_ok r k ≡ true → k.digest ≡ next_value r k
unfolding digest_ok
next_is r k e = same_yes k.digest (next_value r k) e

-- what a successful broadcast implies
pub record Confirmed (r : Replica) (m : List ℕ) : Type 0 where
  pub range : in_range r ≡ true
  pub clear : r.halt ≡ 0
  pub form : is_broadcast m ≡ true
  pub long : length m ≡ 80
  pub fine : Allowed (commit_of m)
  pub next : (commit_of m).seq ≡ r.confirmed + 1
  pub below : r.confirmed < 1000000
  pub tag : commit_tag_ok r.keys (commit_of m) ≡ true
  pub digest : digest_ok r (commit_of m) ≡ true

pub broadcast_yes : (r : Replica) (m : List ℕ) → broadcast_no r m ≡ 0 → Confirmed r m
unfolding broadcast_no
broadcast_yes r m e =
    let k = commit_of m in
    let y = (all_yes 0 (form_checks r m ++ (content_checks r k ++ proof_checks r k)) (refl, (refl, (refl, (refl, (refl, (refl, (refl, tt))))))) e).1 in
    let p = and_yes (eqb k.seq (r.confirmed + 1)) (leb k.seq 1000000) y.1.1.1.1.0 in
    let n : k.seq ≡ r.confirmed + 1 = eqb-true _ _ p.0 in
    let o : k.seq ≤ 1000000 = leb-true _ _ p.1 in
    record {
      range = y.0;
      clear = eqb-true _ _ y.1.0;
      form = y.1.1.0;
      long = broadcast-length m y.1.1.0;
      fine = commit_allowed k y.1.1.1.0;
      next = n;
      below = omega (arith, n, o);
      tag = y.1.1.1.1.1.0;
      digest = y.1.1.1.1.1.1.0;
    }

-- ---- the two cases of a broadcast
module _ (r : Replica) (m : List ℕ) where
  pub broadcast-stops : eqb (broadcast_no r m) 0 ≡ false → stop r (broadcast_no r m) ≡ broadcast_step r m
  unfolding broadcast_step
  broadcast-stops e = rw e

  pub broadcast_goes : broadcast_no r m ≡ 0
      → record { replica = confirmed_replica r (commit_of m); says = confirmed (commit_of m).seq (commit_of m).status } ≡ broadcast_step r m
  unfolding broadcast_step
  broadcast_goes e = rw e
