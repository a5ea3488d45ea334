-- An operation is confirmed only at the place that its author was told for it. So where a server lists it at another, "no van can ever confirm
-- past it" (document 02, Q-4). From `commit_demand`.
use Prim.Native.Nat.{ℕ}
use mathlib.Core.Path.{◌≡◌, refl, ap, ◌∙◌}
use mathlib.Core.List.{List, [], ◌∷◌, ◌++◌, Memᴰ}
use lib.Dec.{eqb}
use Rattle.operation.specs.declared.Operation.{Operation}
use Rattle.operation.specs.declared.Cells.{Cells}
use Rattle.operation.specs.Operation.{response_on}
use Rattle.replica.specs.Outcome.{Told, opened, invoked, responded, aborted, confirmed, refused, halted}
use Rattle.checks.proofs.Laws.{cond_cases}
use Rattle.agreement.specs.WholeRuns.{Call, Logged, log_of, Entry, Confirmation, history, entries, Got, due, LetOff, Agreement}
use Rattle.agreement.specs.CommitTags.{ByCommit, CommitDemand}
use Rattle.agreement.proofs.Bridge.{entries-append}
use Rattle.agreement.proofs.Agreement.{commit_demand}

-- the place that an answer or "aside" brings
abbrev pub told_seq : Told → ℕ
told_seq (responded seq x) = seq
told_seq (aborted seq) = seq
told_seq opened = 0
told_seq (invoked n) = 0
told_seq (confirmed seq status) = 0
told_seq (refused n) = 0
told_seq (halted n) = 0

due-seq : (e : Entry) (cells : Cells) → told_seq (due e cells) ≡ e.seq
unfolding due
due-seq e cells =
    cond_cases (λ (t : Told). told_seq t ≡ e.seq) (eqb e.status 1) (responded e.seq (response_on e.op cells)) (aborted e.seq) (λ q. refl) (λ q. refl)

pub confirmed_where_told : (keys : List ℕ) (calls : List Call) → ((off : LetOff keys (log_of keys calls)) → ByCommit off → ⊥)
    → (i : ℕ) (xs xs' : List Confirmation) (c : Confirmation) → history i (log_of keys calls) ≡ xs ++ (c ∷ xs')
    → (op : Operation) (t : Told) (v : Logged) → Memᴰ v (log_of keys calls) → Got c.entry.author op t v → op.count ≡ c.entry.op.count
    → told_seq t ≡ c.entry.seq
unfolding CommitDemand Agreement entries
confirmed_where_told keys calls N i xs xs' c h op t v m g q =
    let A = (commit_demand keys calls N i i xs xs' xs xs' c c h h refl refl).answers (entries xs) [] c.entry (entries-append xs (c ∷ [])) in
    ap told_seq (A.only m g q) ∙ due-seq c.entry _
