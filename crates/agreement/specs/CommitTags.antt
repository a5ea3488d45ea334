-- Demand 3 with less let off than document 01 allows (`Demand` follows from it). Since a client halts with 26 at an own operation where it holds
-- no status (document 02, Q-4), agreement no longer rests on the `IN` tags: of tags, only those of commits have to be their authors'.
use Rattle.std.specs.Prelude.{ℕ, ◌≡◌, List}
use Rattle.message.specs.declared.Commit.{Commit}
use Rattle.agreement.specs.WholeRuns.{Call, Logged, log_of, broadcast_carried, LetOff, collision, forgery, Agreement}

-- a let-off other than by the `IN` tag of a reply's item: two strings with one digest, or a forged tag of a commit
unfoldable pub ByCommit : {keys : List ℕ} {log : List Logged} → LetOff keys log → Type 0
ByCommit (collision s t a b n e) = Unit {0}
ByCommit (forgery older newer e x q a r n) = (k : Commit) × (x ≡ broadcast_carried k)

-- "Whatever the relay sends", in every run without such a let-off: what document 01 demands (`Agreement`)
unfoldable pub CommitDemand : Type 0
CommitDemand = (keys : List ℕ) (calls : List Call) → ((off : LetOff keys (log_of keys calls)) → ByCommit off → ⊥) → Agreement (log_of keys calls)
