-- When a call passes its checks: each of them has a yes. Assumes nothing.
use Prim.Native.Nat.{ℕ, zero, suc, ◌<◌, ◌≤◌}
use mathlib.Core.Path.{◌≡◌, refl, ◌∙◌, ap}
use mathlib.Core.List.{List, [], ◌∷◌, ◌++◌}
use mathlib.Core.Bool.{Bool, true, cond}
use native.Mathlib.Omega.{arith}
use borrow.Author.Tests.{le-leb, lt-ltb, eq-eqb}
use Rattle.operation.specs.Operation.{allowed}
use Rattle.message.specs.declared.Commit.{Commit}
use Rattle.message.specs.Message.{is_reply, is_broadcast, reply_count, reply_item, commit_of}
use Rattle.verify.specs.Verify.{commit_tag_ok}
use Rattle.replica.specs.declared.Replica.{Replica}
use Rattle.checks.specs.Checks.{first_no}
use Rattle.replica.specs.Replica.{no_current, in_range}
use Rattle.checks.proofs.Laws.{Yes}
use Rattle.client_invoke.specs.Invoke.{invoke_checks, invoke_no}
use Rattle.client_broadcast.specs.Broadcast as B
use Rattle.message.specs.Content.{commit_ok}
use Rattle.client_broadcast.specs.Broadcast.{seq_ok, digest_ok, content_checks, proof_checks, broadcast_no}
use Rattle.client_reply_check.specs.ReplyChecks.{reply_form_checks, item_checks, items_checks, last_checks, last_ok, reply_no}

pub yes_first : (qs : List (Bool × ℕ)) → Yes qs → first_no 0 qs ≡ 0
yes_first [] y = refl
yes_first (q ∷ qs) y = ap (λ (b : Bool). first_no (cond b 0 q.1) qs) y.0 ∙ yes_first qs y.1

pub yes_append : (xs ys : List (Bool × ℕ)) → Yes xs → Yes ys → Yes (xs ++ ys)
yes_append [] ys y z = z
yes_append (x ∷ xs) ys y z = (y.0, yes_append xs ys y.1 z)

pub invoke_passes : (r : Replica) (kind cell amount last room : ℕ) → in_range r ≡ true → r.halt ≡ 0 → no_current r.current ≡ true
    → allowed kind cell amount last ≡ true → r.count < 1000000 → 43 ≤ room → invoke_no r kind cell amount last room ≡ 0
unfolding invoke_no
invoke_passes r kind cell amount last room a b c d e f =
    yes_first (invoke_checks r kind cell amount last room) (a, (eq-eqb r.halt 0 b, (c, (d, (lt-ltb r.count 1000000 e, (le-leb 43 room f, tt))))))

items_pass : (r : Replica) (m : List ℕ) (n : ℕ) → ((k : ℕ) → k < n → Yes (item_checks r (reply_count m) k (reply_item m k))) → Yes (items_checks r m n)
unfolding items_checks
items_pass r m zero y = tt
items_pass r m (suc n) y = yes_append (items_checks r m n) (item_checks r (reply_count m) n (reply_item m n)) (items_pass r m n (λ k h. y k (omega arith))) (y n (omega arith))

pub reply_passes : (r : Replica) (m : List ℕ) (room : ℕ) → in_range r ≡ true → r.halt ≡ 0 → is_reply m ≡ true → 80 ≤ room
    → ((k : ℕ) → k < reply_count m → Yes (item_checks r (reply_count m) k (reply_item m k))) → last_ok r m ≡ true → reply_no r m room ≡ 0
unfolding reply_no
reply_passes r m room a b c d y l =
    yes_first (reply_form_checks r m room ++ (items_checks r m (reply_count m) ++ last_checks r m))
    (yes_append (reply_form_checks r m room) (items_checks r m (reply_count m) ++ last_checks r m)
    (a, (eq-eqb r.halt 0 b, (c, (le-leb 80 room d, tt))))
    (yes_append (items_checks r m (reply_count m)) (last_checks r m) (items_pass r m (reply_count m) y) (l, tt)))

pub broadcast_passes : (r : Replica) (m : List ℕ) (k : Commit) → commit_of m ≡ k → in_range r ≡ true → r.halt ≡ 0 → is_broadcast m ≡ true
    → commit_ok k ≡ true → seq_ok r k ≡ true → commit_tag_ok r.keys k ≡ true → digest_ok r k ≡ true → broadcast_no r m ≡ 0
unfolding broadcast_no
broadcast_passes r m k e a b c d f g h =
    ap (λ (k : Commit). first_no 0 (B.form_checks r m ++ (content_checks r k ++ proof_checks r k))) e
    ∙ yes_first (B.form_checks r m ++ (content_checks r k ++ proof_checks r k)) (a, (eq-eqb r.halt 0 b, (c, (d, (f, (g, (h, tt)))))))
