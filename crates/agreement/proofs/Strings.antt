-- The chain strings and the tags of a log, read off its trace.
use Prim.Native.Nat.{ℕ, zero, suc, ◌+◌, ◌-◌, ◌^◌, ◌<◌, ◌≤◌}
use mathlib.Core.Path.{◌≡◌, refl, sym, ◌∙◌, ap, subst}
use mathlib.Core.Logic.{◌⊎◌, inl, inr, ⊎_elim}
use mathlib.Core.List.{List, [], ◌∷◌, ◌++◌}
use mathlib.Core.List.Memᴰ
use mathlib.Core.List.{Memᴰ}
use native.Mathlib.Omega.{arith}
use native.Mathlib.Nat.{eq-or-lt_of_le, le_of_suc-le-suc}
use lib.ListN.{length}
use Rattle.operation.specs.declared.Operation.{Operation}
use Rattle.operation.specs.declared.Cells.{Cells}
use Rattle.message.specs.declared.Commit.{Commit}
use Rattle.message.specs.Message.{chain_string, reply_count, reply_item, commit_of}
use Rattle.round_trips.proofs.Operations.{ok_fits}
use Rattle.replica.specs.Places.{value_at}
use Rattle.replica.proofs.Places.{value-length}
use Rattle.replica.specs.declared.Replica.{Replica}
use Rattle.replica.proofs.Laws.{Sized}
use Rattle.client_broadcast.specs.Broadcast.{broadcast_no}
use Rattle.client_broadcast.proofs.Laws.{broadcast_yes}
use Rattle.client_reply_check.specs.ReplyChecks.{seq_at, last_item, reply_no}
use Rattle.client_reply_check.proofs.Laws.{form_yes, reply_formed, last_yes, last_passed}
use Rattle.client_reply.specs.Reply.{chain_after, is_aborted}
use Rattle.client_laws.proofs.Chain.{item_taken, last_current}
use Rattle.client_laws.proofs.Reply.{reply_sized, replied_chain, last_seq_lem}
use Rattle.client_laws.proofs.Broadcast.{broadcast-digest, next_length}
use Rattle.agreement.specs.WholeRuns.{caller, Logged, took, all_of, item_strings, broadcast_string, strings, broadcast_carried, tags}
use Rattle.agreement.proofs.Trace.{Com, Ev, commit, confirm, onto}
use Rattle.agreement.proofs.Confirm.{confirms}
use Rattle.agreement.proofs.Runs.{Ready, Fine}
use Rattle.agreement.proofs.Logs.{Split}
use Rattle.agreement.proofs.Events.{com_of, Kind, quiet, makes, commits, confirms_it, kind_of_lem, commit_strings, confirm-strings, confirm-tags}

-- ---- lists
pub in_all : {A : Type 0} (f : Logged → List A) (es : List Logged) {e : Logged} {x : A} → Memᴰ e es → Memᴰ x (f e) → Memᴰ x (all_of f es)
unfolding all_of
in_all f [] m h = absurd (Memᴰ.not-nil m)
in_all {A} f (y ∷ es) {e} {x} m h = go (λ m. in_all f es m h) (Memᴰ.cases_cons m)
  where
    go : (Memᴰ e es → Memᴰ x (all_of f es)) → (e ≡ y) ⊎ Memᴰ e es → Memᴰ x (f y ++ all_of f es)
    go below (inl q) = Memᴰ.append_left (all_of f es) (rw q at h)
    go below (inr m) = Memᴰ.append_right (f y) (below m)

pub in_items : (r : Replica) (m : List ℕ) (n j : ℕ) → j < n
    → Memᴰ (chain_string (value_at r.confirmed j (chain_after r m)) (reply_item m j).op (seq_at r.confirmed j) (reply_item m j).author) (item_strings r m n)
unfolding item_strings
in_items r m zero j h = absurd (omega arith)
in_items r m (suc n) j h =
    ⊎_elim
    (λ (q : j ≡ n). Memᴰ.append_right (item_strings r m n) (Memᴰ.head (rw q)))
    (λ (l : j < n). Memᴰ.append_left _ (in_items r m n j l))
    (eq-or-lt_of_le (le_of_suc-le-suc h))

-- ---- ranges
module _ (r : Replica) (m : List ℕ) (room : ℕ) (z : reply_no r m room ≡ 0) (s : Sized r) where
  few : reply_count m ≤ 32
  few = (form_yes r m room (reply_formed r m room z)).few

  some : 1 ≤ reply_count m
  some = (last_yes r m (last_passed r m room z)).some

  chain_long : length (chain_after r m) ≡ 1056
  chain_long =
      ap length (sym (replied_chain r (chain_after r m) (reply_count m) (is_aborted r m))) ∙ (reply_sized r m room z s.chain s).chain

  pub chain_value : (j : ℕ) → j ≤ reply_count m → length (value_at r.confirmed j (chain_after r m)) ≡ 32
  chain_value j h = value-length r.confirmed j (chain_after r m) chain_long (let f = few in omega arith)

  pub item_fits : (j : ℕ) → j < reply_count m → (reply_item m j).op.count < 2 ^ 32
  item_fits j h = ok_fits (reply_item m j).op (item_taken r m room z s.chain j h).fine.op

  pub seq-fits : (j : ℕ) → j < reply_count m → seq_at r.confirmed j < 2 ^ 32
  seq-fits j h = (let l = (item_taken r m room z s.chain j h).fine.seq in omega arith)

  pub current_fits : r.current.count < 2 ^ 32
  current_fits =
      let a : (last_item m).op.count < 2 ^ 32 = item_fits (reply_count m - 1) (let t = some in omega arith) in
      let b : (last_item m).op.count ≡ r.current.count = ap (λ (e : Operation). e.count) (last_current r m room z) in
      omega arith

  pub last_fits : r.confirmed + reply_count m < 2 ^ 32
  last_fits = (let l = last_seq_lem r m room z s.chain in omega arith)

module _ (r : Replica) (m : List ℕ) (z : broadcast_no r m ≡ 0) (s : Sized r) where
  pub op_fits : (commit_of m).op.count < 2 ^ 32
  op_fits = ok_fits (commit_of m).op (broadcast_yes r m z).fine.op

  pub place-fits : (commit_of m).seq < 2 ^ 32
  place-fits = (let a = (broadcast_yes r m z).next in let b = (broadcast_yes r m z).below in omega arith)

  pub digest-long : length (commit_of m).digest ≡ 32
  digest-long = ap length (broadcast-digest r m z) ∙ next_length r (commit_of m) s.chain

-- ---- a commit and a confirmation of the trace, in the log
module _ (keys : List ℕ) (log : List Logged) (F : (e : Logged) → Memᴰ e log → Fine keys e) where
  pub split-mem : (older newer : List Logged) (e : Logged) → log ≡ older ++ (e ∷ newer) → Memᴰ e log
  split-mem older newer e q = subst (λ (l : List Logged). Memᴰ e l) (sym q) (Memᴰ.append_right older (Memᴰ.head refl))

  pub older_mem : (older newer : List Logged) (e x : Logged) → log ≡ older ++ (e ∷ newer) → Memᴰ x older → Memᴰ x log
  older_mem older newer e x q m = subst (λ (l : List Logged). Memᴰ x l) (sym q) (Memᴰ.append_left (e ∷ newer) m)

  pub record Commits (i : ℕ) (k : Com) (o : List Ev) : Type 0 where
    pub older : List Logged
    pub newer : List Logged
    pub event : Logged
    pub is : log ≡ older ++ (event ∷ newer)
    pub past : o ≡ onto older []
    pub com_is : com_of event ≡ k
    pub room : ℕ
    pub passed : reply_no event.before (took event) room ≡ 0
    pub strs : strings event ≡ item_strings event.before (took event) (reply_count (took event))
    pub ready : Ready keys (caller event.call) event.before

  pub commit_is : {i : ℕ} {k : Com} {o : List Ev} → Split log [] (commit i k) o → Commits i k o
  commit_is {i} {k} {o} s = go (kind_of_lem s.event f.case)
    where
      f : Fine keys s.event
      f = F s.event (split-mem s.older s.newer s.event s.is)

      go : Kind s.event → Commits i k o
      go (quiet q w) = absurd (let z : ◌≡◌ {A = ℕ} 0 1 = cc (q, s.did) in omega arith)
      go (makes kind cell amount last room z q t) = absurd (let z : ◌≡◌ {A = ℕ} 0 1 = cc (t, s.did) in omega arith)
      go (confirms_it z q t) = absurd (let z : ◌≡◌ {A = ℕ} 0 1 = cc (t, s.did) in omega arith)
      go (commits room z q t) =
          let u : ◌≡◌ {A = List Ev} (commit (caller s.event.call) (com_of s.event) ∷ []) (commit i k ∷ []) = sym t ∙ s.did in
          record {
            older = s.older;
            newer = s.newer;
            event = s.event;
            is = s.is;
            past = s.past;
            com_is = cc u;
            room = room;
            passed = z;
            strs = commit_strings s.event q;
            ready = f.ready;
          }

  pub record Confirms (v : List ℕ) (k : Commit) (o : List Ev) : Type 0 where
    pub older : List Logged
    pub newer : List Logged
    pub event : Logged
    pub is : log ≡ older ++ (event ∷ newer)
    pub past : o ≡ onto older []
    pub value-is : value_at event.before.confirmed 0 event.before.chain ≡ v
    pub commit_of_lem : commit_of (took event) ≡ k
    pub passed : broadcast_no event.before (took event) ≡ 0
    pub strs : strings event ≡ broadcast_string event.before (commit_of (took event)) ∷ []
    pub tgs : tags event ≡ broadcast_carried (commit_of (took event)) ∷ []
    pub ready : Ready keys (caller event.call) event.before

  pub confirm_is : {i : ℕ} {v : List ℕ} {k : Commit} {cells : Cells} {o : List Ev} → Split log [] (confirm i v k cells) o → Confirms v k o
  confirm_is {i} {v} {k} {cells} {o} s = go (kind_of_lem s.event f.case)
    where
      f : Fine keys s.event
      f = F s.event (split-mem s.older s.newer s.event s.is)

      go : Kind s.event → Confirms v k o
      go (quiet q w) = absurd (let z : ◌≡◌ {A = ℕ} 0 1 = cc (q, s.did) in omega arith)
      go (makes kind cell amount last room z q t) = absurd (let z : ◌≡◌ {A = ℕ} 0 1 = cc (t, s.did) in omega arith)
      go (commits room z q t) = absurd (let z : ◌≡◌ {A = ℕ} 0 1 = cc (t, s.did) in omega arith)
      go (confirms_it z q t) =
          let u : ◌≡◌ {A = List Ev} (confirms (caller s.event.call) s.event.before (commit_of (took s.event)) ∷ []) (confirm i v k cells ∷ []) = sym t ∙ s.did in
          record {
            older = s.older;
            newer = s.newer;
            event = s.event;
            is = s.is;
            past = s.past;
            value-is = cc u;
            commit_of_lem = cc u;
            passed = z;
            strs = confirm-strings s.event q;
            tgs = confirm-tags s.event q;
            ready = f.ready;
          }
