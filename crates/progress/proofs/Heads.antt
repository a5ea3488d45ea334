-- The head of a line from a client, and the clients after a step of the server. Assumes nothing.
use Prim.Native.Nat.{ℕ, suc, ◌+◌, ◌<◌, ◌≤◌}
use mathlib.Core.Path.{◌≡◌, sym, ap, subst, ◌∙◌}
use mathlib.Core.Logic.{inl, inr}
use mathlib.Core.List.{List, [], ◌∷◌}
use mathlib.Core.Bool.{true, false, true≢false}
use lib.ListN.{length}
use native.Mathlib.Omega.{arith}
use Rattle.operation.specs.declared.Operation.{Operation}
use Rattle.operation.specs.Operation.{no_op}
use Rattle.message.specs.Message.{is_invoke}
use Rattle.replica.specs.declared.Replica.{Replica}
use Rattle.replica.proofs.Laws.{ranged}
use Rattle.server.specs.declared.Server.{Server}
use Rattle.server.specs.Server.{last_count}
use Rattle.server_laws.proofs.Awaiting.{Uncommitted}
use Rattle.progress.specs.HonestRuns.{Line, update}
use Rattle.progress.proofs.Invariant.{Ghost, Downs, Asked, Sent, Asks, Lines, invokes, reply_seq, Settled, Client, Either}
use Rattle.progress.proofs.Lines.{lines-moved}
use Rattle.progress.proofs.Settling.{settled_others}
use Rattle.progress.proofs.Acting.{update_same, update_other}

pub no_head : {A : Type 0} (m : List ℕ) (u : Line) → m ∷ u ≡ [] → A
no_head m u e = absurd (let z : suc (length u) ≡ 0 = ap length e in omega arith)

pub asked_head : (g : Ghost) (sv : Server) (n b : ℕ) (h : Operation) (c : ℕ) (m : List ℕ) (u d : Line) → is_invoke m ≡ true → Lines g sv n b h c (m ∷ u) d
    → Asked g n h m × ((u ≡ []) × Downs g sv n b no_op c d)
asked_head g sv n b h c m u d e (inl (inl (A, U), D)) = (A, (U, D))
asked_head g sv n b h c m u d e (inl (inr (S, U), D)) = absurd (true≢false (sym e ∙ S.other))
asked_head g sv n b h c m u d e (inr (U, D)) = no_head m u U

pub sent_head : (g : Ghost) (sv : Server) (n b : ℕ) (h : Operation) (c : ℕ) (m : List ℕ) (u d : Line) → is_invoke m ≡ false → Lines g sv n b h c (m ∷ u) d
    → Sent g sv n m × (Asks g n h u × Downs g sv n b no_op c d)
sent_head g sv n b h c m u d e (inl (inl (A, U), D)) = absurd (true≢false (sym A.form ∙ e))
sent_head g sv n b h c m u d e (inl (inr (S, U), D)) = (S, (U, D))
sent_head g sv n b h c m u d e (inr (U, D)) = no_head m u U

-- a client in whose line there is a message is one whose opening succeeded
pub client_of : (g : Ghost) (sv : Server) (n b : ℕ) (r : Replica) (m : List ℕ) (u d : Line) → Either g sv n b r (m ∷ u) d → Client g sv n b r (m ∷ u) d
client_of g sv n b r m u d (inl C) = C
client_of g sv n b r m u d (inr c) = no_head m u c.none

-- a client with another server and other lines
pub relined : (g : Ghost) (s t : Server) (n b c : ℕ) (r : Replica) (u d v e : Line) → Client g s n b r u d
    → last_count t n + invokes v ≡ r.count → Settled g t.placed n r.confirmed r.statuses (reply_seq r.confirmed e)
    → Lines g t n c r.current r.confirmed v e → Client g t n c r v e
relined g s t n b c r u d v e C k S L =
    record {
      sound = C.sound;
      number = C.number;
      keys = C.keys;
      clear = C.clear;
      values = C.values;
      named = C.named;
      counted = k;
      settled = S;
      lines = L;
    }

-- a client of which the server awaits what it awaited, whose last count it has kept, and of which it has placed no item
pub client_moved : (g : Ghost) (s t : Server) (n b : ℕ) (r : Replica) (u d : Line) → ((p : ℕ) (e : Operation) → Uncommitted s n p e → Uncommitted t n p e)
    → (1 ≤ n → last_count t n ≡ last_count s n) → ((q : ℕ) → s.placed ≤ q → q < t.placed → (g.at (suc q)).author ≡ n → ⊥)
    → Either g s n b r u d → Either g t n b r u d
client_moved g s t n b r u d f k o (inl C) =
    let a : 1 ≤ n = subst (λ (x : ℕ). 1 ≤ x) C.number (ranged r C.sound.range).low in
    inl (relined g s t n b b r u d u d C (ap (λ (x : ℕ). x + invokes u) (k a) ∙ C.counted)
    (settled_others g n r.confirmed r.statuses s.placed t.placed (reply_seq r.confirmed d) o C.settled)
    (lines-moved g s t n f b r.current r.confirmed u d C.lines))
client_moved g s t n b r u d f k o (inr c) = inr c

-- ---- the lines of client n are new
pub lines_updated : (g : Ghost) (sv : Server) (b : ℕ) (f : ℕ → Replica) (u d : ℕ → Line) (n : ℕ) (v e : Line)
    → ((j : ℕ) → (j ≡ n → ⊥) → Either g sv j b (f j) (u j) (d j)) → Either g sv n b (f n) v e
    → (j : ℕ) → Dec (j ≡ n) → Either g sv j b (f j) (update u n v j) (update d n e j)
lines_updated g sv b f u d n v e A E j (yes z) = rw (update_same u n j v z, update_same d n j e z, z) E
lines_updated g sv b f u d n v e A E j (no z) = rw (update_other u n j v z, update_other d n j e z) (A j z)

pub line_updated : (g : Ghost) (sv : Server) (b : ℕ) (f : ℕ → Replica) (u d : ℕ → Line) (n : ℕ) (v : Line)
    → ((j : ℕ) → (j ≡ n → ⊥) → Either g sv j b (f j) (u j) (d j)) → Either g sv n b (f n) v (d n)
    → (j : ℕ) → Dec (j ≡ n) → Either g sv j b (f j) (update u n v j) (d j)
line_updated g sv b f u d n v A E j (yes z) = rw (update_same u n j v z, z) E
line_updated g sv b f u d n v A E j (no z) = rw (update_other u n j v z) (A j z)
