-- The server's checks of the head of a line: which can have a no. Assumes nothing.
use Prim.Native.Nat.{ℕ, ◌+◌, ◌*◌, ◌≤◌}
use mathlib.Core.Path.{◌≡◌, refl, sym, ap, subst, ◌∙◌}
use mathlib.Core.Logic.{◌⊎◌, inl, inr, ⊎_elim}
use mathlib.Core.List.{List, [], ◌∷◌, ◌++◌}
use mathlib.Core.Bool.{Bool, true, false, ◌||◌}
use lib.Dec.{leb, eqb}
use native.Mathlib.Omega.{arith}
use borrow.Author.Tests.{le-leb, eq-eqb}
use Rattle.operation.specs.declared.Operation.{Operation}
use Rattle.operation.specs.Operation.{op_ok, same_op, no_op}
use Rattle.message.specs.declared.Commit.{Commit}
use Rattle.message.specs.Message.{is_invoke, item_at, commit_of}
use Rattle.replica.specs.declared.Replica.{Replica}
use Rattle.checks.proofs.Laws.{every-each}
use Rattle.server.specs.declared.Server.{Server}
use Rattle.message.specs.Content.{commit_ok}
use Rattle.server.specs.Server.{item_ok, whole_invoke, whole_commit, author_of, line_checks, last_count, placing_checks, slot_item, slot_of, place_ok, commit_checks, server_no}
use Rattle.server.specs.Server as Sv
use Rattle.progress.specs.HonestRuns.{Line}
use Rattle.progress.proofs.Invariant.{Ghost, Downs, Asked, Sent, Asks, invokes, Client}
use Rattle.progress.proofs.Lines.{no_op-refused, invokes_none, invoke-counted}
use Rattle.progress.proofs.Calls.{first_among, same_op_of}
use Rattle.progress.proofs.Heads.{asked_head, sent_head}

or_left : (a b : Bool) → a ≡ true → (a || b) ≡ true
or_left a b e = rw e

or_right : (a b : Bool) → b ≡ true → (a || b) ≡ true
or_right true b e = refl
or_right false b e = e

-- ---- the head of the line from a client, in a world as the invariant has it
module _ (g : Ghost) (s : Server) (range : Sv.in_range s ≡ true) (n b : ℕ) (low : 1 ≤ n) (high : n ≤ 8) (r : Replica) (m : List ℕ) (u d : Line)
    (C : Client g s n b r (m ∷ u) d) where
  -- ---- an invoke
  module _ (e : is_invoke m ≡ true) where
    asked : Asked g n r.current m × ((u ≡ []) × Downs g s n b no_op r.confirmed d)
    asked = asked_head g s n b r.current r.confirmed m u d e C.lines

    item_fine : item_ok (item_at m 2) ≡ true
    unfolding item_ok
    item_fine =
        let a = asked.0 in
        let i = item_at m 2 in
        every-each (op_ok i.op ∷ leb 1 i.author ∷ leb i.author 8 ∷ []) (
          ap op_ok a.op ∙ a.fine,
          (le-leb _ _ (subst (λ (x : ℕ). 1 ≤ x) (sym a.mine) low), (le-leb _ _ (subst (λ (x : ℕ). x ≤ 8) (sym a.mine) high), tt)),
        )

    invoke_fine : whole_invoke m ≡ true
    unfolding whole_invoke
    invoke_fine = rw (e, item_fine)

    author_is : author_of m ≡ (item_at m 2).author
    unfolding item_at
    author_is = refl

    -- "count one above that van's last placed"
    next : (item_at m 2).op.count ≡ last_count s (item_at m 2).author + 1
    next =
        let a = asked.0 in
        let named : r.current.count ≡ r.count
        = ⊎_elim
        (λ (z : r.current ≡ no_op). absurd (no_op-refused (subst (λ (x : Operation). op_ok x ≡ true) z a.fine)))
        (λ (z : r.current.count ≡ r.count). z)
        C.named in
        let x : (item_at m 2).op.count ≡ r.count = ap (λ (o : Operation). o.count) a.op ∙ named in
        let y : invokes u ≡ 0 = ap invokes asked.1.0 ∙ invokes_none in
        let z = invoke-counted m u e in
        let k = C.counted in
        let l : last_count s (item_at m 2).author ≡ last_count s n = ap (last_count s) a.mine in
        omega arith

    -- only 33, 34 and 7
    pub invoke_no_lem : (room : ℕ) → (P : ℕ → Type 0) → P 0 → P 33 → P 34 → P 7 → P (server_no s n m room)
    unfolding server_no
    invoke_no_lem room P z p q o =
        rw e
        (first_among P 0 (line_checks s n m ++ placing_checks s (item_at m 2) room) z (
          inl range,
          (
            inl (or_left (whole_invoke m) (whole_commit m) invoke_fine),
            (inl (eq-eqb _ _ (author_is ∙ asked.0.mine)), (inl (eq-eqb _ _ next), (inr p, (inr q, (inr o, tt))))),
          ),
        ))

  -- ---- a commit
  module _ (e : is_invoke m ≡ false) where
    abbrev k : Commit
    k = commit_of m

    sent : Sent g s n m × (Asks g n r.current u × Downs g s n b no_op r.confirmed d)
    sent = sent_head g s n b r.current r.confirmed m u d e C.lines

    commit_fine : whole_commit m ≡ true
    unfolding whole_commit commit_ok
    commit_fine =
        let a = sent.0 in
        rw a.form
        (every-each (op_ok k.op ∷ leb 1 k.author ∷ leb k.author 8 ∷ leb k.status 1 ∷ []) (
          a.fine,
          (
            le-leb _ _ (subst (λ (x : ℕ). 1 ≤ x) (sym a.mine) low),
            (le-leb _ _ (subst (λ (x : ℕ). x ≤ 8) (sym a.mine) high), (le-leb _ _ a.status, tt)),
          ),
        ))

    sender_is : author_of m ≡ k.author
    unfolding commit_of
    sender_is = refl

    place_fine : place_ok s k ≡ true
    unfolding place_ok
    place_fine =
        let a = sent.0.awaited in
        every-each
        (leb (s.passed + 1) k.seq
        ∷ leb k.seq s.placed
        ∷ same_op (slot_item s (slot_of s k)).op k.op
        ∷ eqb (slot_item s (slot_of s k)).author k.author
        ∷ [])
        (le-leb _ _ a.above, (le-leb _ _ a.below, (same_op_of _ _ a.op, (eq-eqb _ _ (a.author ∙ sym sent.0.mine), tt))))

    -- only 7
    pub commit_no : (room : ℕ) → (P : ℕ → Type 0) → P 0 → (Sv.due_count (Sv.stored_server s k) * 80 ≤ room) ⊎ P 7 → P (server_no s n m room)
    unfolding server_no
    commit_no room P z o =
        let enough : (leb (Sv.due_count (Sv.stored_server s k) * 80) room ≡ true) ⊎ P 7
        = ⊎_elim (λ (h : Sv.due_count (Sv.stored_server s k) * 80 ≤ room). inl (le-leb _ _ h)) (λ (p : P 7). inr p) o in
        rw e
        (first_among P 0 (line_checks s n m ++ commit_checks s k room) z (
          inl range,
          (
            inl (or_right (whole_invoke m) (whole_commit m) commit_fine),
            (
              inl (eq-eqb _ _ (sender_is ∙ sent.0.mine)),
              (inl place_fine, (inl (eq-eqb _ _ sent.0.awaited.none), (enough, tt))),
            ),
          ),
        ))
