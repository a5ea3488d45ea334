-- The world after the server placed the item at the head of a line. Assumes nothing.
use Prim.Native.Nat.{ℕ, suc, ◌+◌, ◌<◌, ◌≤◌}
use mathlib.Core.Path.{◌≡◌, refl, sym, ap, subst, ◌∙◌}
use mathlib.Core.Logic.{inl, inr, ⊎_elim}
use mathlib.Core.List.{List, [], ◌∷◌, ◌++◌}
use mathlib.Core.Bool.{true}
use lib.ListN.{drop}
use native.Mathlib.Omega.{arith}
use native.Mathlib.Decide.{ℕ_discrete}
use Rattle.operation.specs.declared.Operation.{Operation}
use Rattle.operation.specs.Operation.{op_ok, no_op}
use Rattle.message.specs.declared.Item.{Item}
use Rattle.message.specs.Readers.{ItemFits}
use Rattle.message.specs.Message.{item_at, reply_bytes, reply_count}
use Rattle.replica.specs.declared.Replica.{Replica}
use Rattle.replica.proofs.Laws.{ranged}
use Rattle.server.specs.declared.Server.{Server}
use Rattle.server.specs.Server.{pending, last_count, slot_items, placed_server, placed_step}
use Rattle.server_laws.proofs.State.{count_new, count_old}
use Rattle.server_laws.proofs.Range.{Ordered, ordered}
use Rattle.server_laws.proofs.Checks.{Placeable}
use Rattle.server_laws.proofs.Awaiting.{Uncommitted, placed-kept, placed_new}
use Rattle.progress.specs.HonestRuns.{World, Line, put_one, written, served}
use Rattle.progress.proofs.Invariant.{Ghost, ItemAt, Reply, Downs, Asked, Lines, invokes, reply_seq, Settled, Client, Either, Inv}
use Rattle.progress.proofs.Settling.{seq_none, seq-reply, settled_placed}
use Rattle.progress.proofs.Lines.{no_op-refused, invokes_none, downs_reply, downs_quiet}
use Rattle.progress.proofs.Placing.{fits, count, slot_new, slots_placed, placed_servers, replies}
use Rattle.progress.proofs.Heads.{asked_head, client_of, relined, client_moved, lines_updated}

written-reply : (is : List Item) → written (reply_bytes is) ≡ reply_bytes is ∷ []
unfolding written reply_bytes
written-reply is = refl

module _ (g : Ghost) (w : World) (I : Inv g w) (n : ℕ) (m : List ℕ) (u : Line) (q : w.up n ≡ m ∷ u) (P : Placeable w.server n m)
    (G : item_at m 2 ≡ g.at (suc w.server.placed)) where
  abbrev s : Server
  s = w.server

  abbrev r : Replica
  r = w.replica n

  abbrev i : Item
  i = item_at m 2

  abbrev t : Server
  t = placed_server s i

  client : Client g s n s.passed r (m ∷ u) (w.down n)
  client = client_of g s n s.passed r m u (w.down n) (subst (λ (l : Line). Either g s n s.passed r l (w.down n)) q (I.clients n))

  head : Asked g n r.current m × ((u ≡ []) × Downs g s n s.passed no_op r.confirmed (w.down n))
  head = asked_head g s n s.passed r.current r.confirmed m u (w.down n) P.form client.lines

  -- ---- the item
  low : 1 ≤ i.author
  low = subst (λ (x : ℕ). 1 ≤ x) (client.number ∙ sym P.author) (ranged r client.sound.range).low

  high : i.author ≤ 8
  high = subst (λ (x : ℕ). x ≤ 8) (client.number ∙ sym P.author) (ranged r client.sound.range).high

  item : ItemAt g s.placed i
  item =
      let a = head.0 in
      record { is = G; op = subst (λ (y : Operation). op_ok y ≡ true) (sym a.op) a.fine; low = low; high = high; seq = P.early; tag = a.tag }

  order : Ordered s
  order = ordered s P.range

  fit : ItemFits i
  fit = fits g s.placed i item

  -- ---- the reply
  abbrev message : List ℕ
  message = reply_bytes (slot_items t (pending s + 1))

  awaited : Uncommitted t n (s.passed + (pending s + 1)) r.current
  awaited =
      let o = order.order in
      let e : s.placed + 1 ≡ s.passed + (pending s + 1) = omega arith in
      let x = placed_new s I.server.sizes order i P.few fit in
      subst (λ (y : ℕ). Uncommitted t n y r.current) e
      (subst (Uncommitted t n (s.placed + 1)) head.0.op (subst (λ (y : ℕ). Uncommitted t y (s.placed + 1) i.op) P.author x))

  reply : Reply g t n s.passed r.current message
  reply =
      let N = slot_new g s I.server order i P.few item in
      replies g t s.passed (pending s) P.few (slots_placed g s I.server order i P.few item) r.current n
      (ap (λ (x : Item). x.op) N ∙ head.0.op) (ap (λ (x : Item). x.author) N ∙ P.author) awaited

  -- ---- that client
  named : r.current.count ≡ r.count
  named =
      ⊎_elim
      (λ (e : r.current ≡ no_op). absurd (no_op-refused (subst (λ (x : Operation). op_ok x ≡ true) e head.0.fine)))
      (λ (e : r.current.count ≡ r.count). e)
      client.named

  counted : last_count t n + invokes u ≡ r.count
  counted =
      let a : last_count t n ≡ i.op.count
      = ap (last_count t) (sym P.author) ∙ count_new s i I.server.sizes.counts low high in
      let b : i.op.count ≡ r.count = ap (λ (x : Operation). x.count) head.0.op ∙ named in
      let c : invokes u ≡ 0 = ap invokes head.1.0 ∙ invokes_none in
      omega arith

  -- its reply is the one on its way
  settled : Settled g t.placed n r.confirmed r.statuses (reply_seq r.confirmed (w.down n ++ (message ∷ [])))
  unfolding placed_server
  settled =
      let o = order.order in
      let D = head.1.1 in
      let e : s.placed + 1 ≡ s.passed + reply_count message
      = omega (arith, count g t s.passed (pending s) P.few (slots_placed g s I.server order i P.few item)) in
      let q = seq-reply g s n s.passed r.confirmed (w.down n) message D reply.form in
      subst (Settled g (s.placed + 1) n r.confirmed r.statuses) (e ∙ sym q)
      (settled_placed g n r.confirmed r.statuses s.placed
      (subst (Settled g s.placed n r.confirmed r.statuses) (seq_none g s n s.passed r.confirmed (w.down n) D) client.settled))

  placed_client : Either g t n s.passed r (drop 1 (w.up n)) (w.down n ++ written message)
  placed_client =
      let D = downs_quiet g s t n s.passed r.confirmed (w.down n) head.1.1 in
      let L : Lines g t n s.passed r.current r.confirmed u (w.down n ++ (message ∷ []))
      = inr (head.1.0, downs_reply g t n s.passed r.current r.confirmed (w.down n) message D reply) in
      subst (λ (l : Line). Either g t n s.passed r l (w.down n ++ written message)) (sym (ap (drop 1) q))
      (subst (λ (l : Line). Either g t n s.passed r u (w.down n ++ l)) (sym (written-reply (slot_items t (pending s + 1))))
      (inl (relined g s t n s.passed s.passed r (m ∷ u) (w.down n) u (w.down n ++ (message ∷ [])) client counted settled L)))

  -- ---- the others
  not_mine : (j : ℕ) → (j ≡ n → ⊥) → (p : ℕ) → s.placed ≤ p → p < t.placed → (g.at (suc p)).author ≡ j → ⊥
  unfolding placed_server
  not_mine j d p a b e =
      let z : p ≡ s.placed = omega arith in
      d (sym e ∙ ap (λ (x : ℕ). (g.at (suc x)).author) z ∙ ap (λ (x : Item). x.author) (sym G) ∙ P.author)

  others : (j : ℕ) → (j ≡ n → ⊥) → Either g t j s.passed (w.replica j) (w.up j) (w.down j)
  others j d =
      client_moved g s t j s.passed (w.replica j) (w.up j) (w.down j)
      (λ p e. placed-kept s I.server.sizes order i P.few fit j p e)
      (λ a. count_old s i j a low (λ x. d (x ∙ P.author)))
      (not_mine j d)
      (I.clients j)

  pub placed_world_lem : Inv g (served w n (placed_step s i) (placed_step s i).says)
  unfolding served placed_step placed_server put_one
  placed_world_lem =
      record {
        clients = λ j.
            lines_updated g t s.passed w.replica w.up w.down n (drop 1 (w.up n)) (w.down n ++ written message) others placed_client j (ℕ_discrete j n);
        server = placed_servers g s I.server order i P.few item;
      }
