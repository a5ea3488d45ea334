-- What a client writes: an invoke and a commit, as they stand in its line. Assumes nothing.
use Prim.Native.Nat.{ℕ, suc, ◌+◌, ◌≤◌}
use mathlib.Core.Path.{◌≡◌, refl, ap, ◌∙◌}
use mathlib.Core.List.{List, [], ◌∷◌}
use mathlib.Core.Bool.{Bool, true, false}
use lib.ListN.{length}
use native.Mathlib.Omega.{arith}
use borrow.Author.Tests.{le-leb}
use Rattle.operation.specs.declared.Operation.{Operation}
use Rattle.operation.specs.Operation.{op_ok}
use Rattle.message.specs.declared.Item.{Item}
use Rattle.message.specs.declared.Commit.{Commit}
use Rattle.message.specs.Readers.{ItemFits, CommitFits}
use Rattle.message.specs.Message.{invoke_string, commit_string, invoke_bytes, is_invoke, is_commit, item_at, marked, commit_bytes, commit_fields, commit_of}
use Rattle.round_trips.proofs.Operations.{ok_fits}
use Rattle.round_trips.proofs.Messages as M
use Rattle.verify.specs.Verify.{invoke_tag, commit_tag}
use Rattle.replica.specs.Places.{value_at}
use Rattle.verify.proofs.Laws.{invoke-tag-length, commit_tag-length}
use Rattle.replica.specs.declared.Replica.{Replica}
use Rattle.client_invoke.specs.Invoke.{invoke_message}
use Rattle.client_reply.specs.Reply.{status, commit_message}
use Rattle.server.specs.declared.Server.{Server}
use Rattle.server_laws.proofs.Awaiting.{Uncommitted}
use Rattle.progress.specs.HonestRuns.{written}
use Rattle.progress.proofs.Invariant.{Ghost, chain_of, Asked, Sent}
use Rattle.progress.proofs.Lines.{chain_value-length}

-- ---- the invoke
asked_of : (g : Ghost) (n : ℕ) (h : Operation) (m : List ℕ) (i : Item) → is_invoke m ≡ true → item_at m 2 ≡ i → i.op ≡ h → i.author ≡ n → op_ok h ≡ true
    → i.tag ≡ invoke_tag g.keys i.op i.author → Asked g n h m
asked_of g n h m i f q o a k t = record { form = f; op = ap (λ (x : Item). x.op) q ∙ o; mine = ap (λ (x : Item). x.author) q ∙ a; fine = k; tag = rw q t }

pub written-invoke : (r : Replica) (e : Operation) → written (invoke_message r e) ≡ invoke_message r e ∷ []
unfolding written invoke_message invoke_bytes invoke_string
written-invoke r e = refl

-- the message asks for its operation
pub message_asks : (g : Ghost) (n : ℕ) (r : Replica) (e : Operation) → r.number ≡ n → r.keys ≡ g.keys → op_ok e ≡ true → Asked g n e (invoke_message r e)
unfolding invoke_message
message_asks g n r e a k o =
    let i : Item = record { op = e; author = r.number; tag = invoke_tag r.keys e r.number } in
    let f : ItemFits i = record { count = ok_fits e o; tag = invoke-tag-length r.keys e r.number } in
    asked_of g n e (invoke_bytes i) i (M.invoke_yes i f) (M.invoke_read i f) refl a o (ap (λ (x : List ℕ). invoke_tag x e r.number) k)

-- ---- the commit written
sent_of : (g : Ghost) (sv : Server) (n : ℕ) (m : List ℕ) (k : Commit) → commit_of m ≡ k → is_invoke m ≡ false → is_commit m ≡ true
    → op_ok k.op ≡ true → k.author ≡ n → k.status ≤ 1 → k.digest ≡ chain_of g k.seq
    → k.tag ≡ commit_tag g.keys k.op k.author k.seq k.digest k.status → Uncommitted sv n k.seq k.op → Sent g sv n m
sent_of g sv n m k q f c o a l h t w =
    record { other = f; form = c; fine = rw q o; mine = rw q a; status = rw q l; digest = rw q h; tag = rw q t; awaited = rw q w }

status_small : (a : Bool) → status a ≤ 1
status_small true = omega arith
status_small false = omega arith

pub commit_no_invoke : (k : Commit) → is_invoke (commit_bytes k) ≡ false
unfolding is_invoke marked commit_bytes commit_string commit_fields
commit_no_invoke k = rw (le-leb 2 (suc (suc (length (commit_fields k)))) (omega arith))

pub written_commit : (r : Replica) (chain : List ℕ) (n : ℕ) (a : Bool) → written (commit_message r chain n a) ≡ commit_message r chain n a ∷ []
unfolding written commit_message commit_bytes commit_string
written_commit r chain n a = refl

pub message_sent : (g : Ghost) (sv : Server) (c : ℕ) (r : Replica) (chain : List ℕ) (n : ℕ) (a : Bool) → r.number ≡ c → r.keys ≡ g.keys → op_ok r.current ≡ true
    → r.confirmed + n ≤ 1000000 → value_at r.confirmed n chain ≡ chain_of g (r.confirmed + n) → Uncommitted sv c (r.confirmed + n) r.current
    → Sent g sv c (commit_message r chain n a)
unfolding commit_message
message_sent g sv c r chain n a x q o l v w =
    let k : Commit = record {
      op = r.current;
      author = r.number;
      seq = r.confirmed + n;
      digest = value_at r.confirmed n chain;
      status = status a;
      tag = commit_tag r.keys r.current r.number (r.confirmed + n) (value_at r.confirmed n chain) (status a);
    } in
    let f : CommitFits k = record {
      count = ok_fits r.current o;
      seq = omega arith;
      digest = ap length v ∙ chain_value-length g (r.confirmed + n);
      tag = commit_tag-length r.keys r.current r.number (r.confirmed + n) (value_at r.confirmed n chain) (status a);
    } in
    sent_of g sv c (commit_bytes k) k (M.commit_read k f) (commit_no_invoke k) (M.commit_yes k f) o x (status_small a) v
    (ap (λ (x : List ℕ). commit_tag x r.current r.number (r.confirmed + n) (value_at r.confirmed n chain) (status a)) q) w
