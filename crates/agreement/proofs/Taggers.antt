-- Who tagged a string, and what that call did.
use Prim.Native.Nat.{ℕ, ◌^◌, ◌<◌}
use mathlib.Core.Path.{◌≡◌, refl, sym, ◌∙◌, ap, subst}
use mathlib.Core.Logic.{◌⊎◌, inl, inr}
use mathlib.Core.HLevel.{Discrete}
use mathlib.Core.List.{List, [], ◌∷◌, ◌++◌, List-discrete}
use mathlib.Core.List.Memᴰ
use mathlib.Core.List.{Memᴰ}
use native.Mathlib.Decide.{ℕ_discrete}
use native.Mathlib.Omega.{arith}
use lib.ListN.{length, get_or, take, length-append}
use lib.Seq.{take_at}
use Rattle.hmac.proofs.Laws.{hmac-length}
use Rattle.operation.specs.declared.Operation.{Operation}
use Rattle.message.specs.declared.Commit.{Commit}
use Rattle.message.specs.Message.{invoke_string, commit_string, reply_count}
use Rattle.round_trips.proofs.Messages.{commit_string-fields}
use Rattle.verify.specs.Verify.{invoke_tag, commit_tag}
use Rattle.verify.proofs.Laws.{invoke-tag-length, commit_tag-length}
use Rattle.replica.specs.Replica.{Step}
use Rattle.client_invoke.specs.Invoke.{new_op}
use Rattle.agreement.specs.WholeRuns.{caller, Logged, took, entry_of, tag_by, Tagged}
use Rattle.agreement.proofs.Trace.{At, Com, Ev, commit, com_seq, com_digest, com_status, onto}
use Rattle.agreement.proofs.Invariant.{Committed}
use Rattle.agreement.proofs.Runs.{Fine}
use Rattle.agreement.proofs.Logs.{mem_at}
use Rattle.agreement.proofs.Events.{com_of, Kind, quiet, makes, commits, confirms_it, kind_of_lem, made-wrote, commit_wrote}
use Rattle.agreement.proofs.Strings.{chain_value, current_fits, last_fits}

-- ---- whether a string was tagged can be told
pub bytes? : Discrete (List ℕ)
bytes? = List-discrete ℕ_discrete

pub stable : {A : Type 0} → Dec A → ((A → ⊥) → ⊥) → A
stable (yes a) n = a
stable (no m) n = absurd (n m)

module _ (keys : List ℕ) (a : ℕ) (s : List ℕ) where
  more : {e : Logged} {es : List Logged} → Tagged keys es a s → Tagged keys (e ∷ es) a s
  more T = record { event = T.event; mem = Memᴰ.tail T.mem; by = T.by; wrote = T.wrote }

  first : {e : Logged} {es : List Logged} (T : Tagged keys (e ∷ es) a s) → (Tagged keys es a s → ⊥) → T.event ≡ e
  first {e} {es} T n = go (Memᴰ.cases_cons T.mem)
    where
      go : (T.event ≡ e) ⊎ Memᴰ T.event es → T.event ≡ e
      go (inl q) = q
      go (inr m) = absurd (n (record { event = T.event; mem = m; by = T.by; wrote = T.wrote }))

  pub tagged? : (es : List Logged) → Dec (Tagged keys es a s)
  tagged? [] = no (λ T. Memᴰ.not-nil T.mem)
  tagged? (e ∷ es) = go (tagged? es) (ℕ_discrete (caller e.call) a) (bytes? e.step.wrote (s ++ tag_by keys a s))
    where
      go : Dec (Tagged keys es a s) → Dec (caller e.call ≡ a) → Dec (e.step.wrote ≡ s ++ tag_by keys a s) → Dec (Tagged keys (e ∷ es) a s)
      go (yes T) p q = yes (more T)
      go (no n) (yes p) (yes q) = yes (record { event = e; mem = Memᴰ.head refl; by = p; wrote = q })
      go (no n) (no p) q = no (λ T. p (ap (λ (e : Logged). caller e.call) (sym (first T n)) ∙ T.by))
      go (no n) (yes p) (no q) = no (λ T. q (ap (λ (e : Logged). e.step.wrote) (sym (first T n)) ∙ T.wrote))

-- ---- the call that tagged it
-- two strings with their tags
pub front_same : (s t x y : List ℕ) → length x ≡ 32 → length y ≡ 32 → s ++ x ≡ t ++ y → s ≡ t
front_same s t x y h g q =
    let a = length-append s x in
    let b = length-append t y in
    let c : length (s ++ x) ≡ length (t ++ y) = ap length q in
    let d : length t ≡ length s = omega arith in
    sym (take_at s x (length s) refl) ∙ ap (take (length s)) q ∙ take_at t y (length s) d

pub tag-long : (keys : List ℕ) (a : ℕ) (s : List ℕ) → length (tag_by keys a s) ≡ 32
unfolding tag_by
tag-long keys a s = hmac-length _ _

not_none : (s t : List ℕ) → length t ≡ 32 → [] ≡ s ++ t → ⊥
not_none s t h q = (let l = length-append s t in let z : 0 ≡ length (s ++ t) = ap length q in absurd (omega arith))

pub data Tagger (older : List Logged) (a : ℕ) (s : List ℕ) : Type 0 where
  by_make : (op : Operation) (n : ℕ) → s ≡ invoke_string op n → Tagger older a s
  by_reply : (k : Com) (o : List Ev) (n : ℕ) → At (onto older []) (commit a k) o → k.r.current.count < 2 ^ 32 → com_seq k < 2 ^ 32
      → length (com_digest k) ≡ 32 → s ≡ commit_string k.r.current n (com_seq k) (com_digest k) (com_status k) → Tagger older a s

pub tagger : (keys : List ℕ) (older : List Logged) (a : ℕ) (s : List ℕ) → ((e : Logged) → Memᴰ e older → Fine keys e) → Tagged keys older a s → Tagger older a s
tagger keys older a s F T = go (kind_of_lem T.event f.case)
  where
    f : Fine keys T.event
    f = F T.event T.mem

    go : Kind T.event → Tagger older a s
    go (quiet q w) = absurd (not_none s (tag_by keys a s) (tag-long keys a s) (sym w ∙ T.wrote))
    go (confirms_it z q t) = absurd (not_none s (tag_by keys a s) (tag-long keys a s) (sym (ap (λ (s : Step). s.wrote) q) ∙ T.wrote))
    go (makes kind cell amount last room z q t) =
        let e = T.event in
        let n : ℕ = e.before.number in
        let op : Operation = new_op e.before kind cell amount last in
        let p : s ≡ invoke_string op n = front_same s (invoke_string op n) (tag_by keys a s) (invoke_tag e.before.keys op n) (tag-long keys a s) (invoke-tag-length e.before.keys op n)
        (sym T.wrote ∙ made-wrote e kind cell amount last q) in
        by_make op n p
    go (commits room z q t) =
        let e = T.event in
        let r = e.before in
        let m = took e in
        let k = com_of e in
        let l : length (com_digest k) ≡ 32 = chain_value r m room z f.ready.sized (reply_count m) (omega arith) in
        let c = commit_string r.current r.number (com_seq k) (com_digest k) (com_status k) in
        let p : s ≡ c = front_same s c (tag_by keys a s) (commit_tag r.keys r.current r.number (com_seq k) (com_digest k) (com_status k)) (tag-long keys a s)
        (commit_tag-length r.keys r.current r.number (com_seq k) (com_digest k) (com_status k)) (sym T.wrote ∙ commit_wrote e q) in
        let at = mem_at older [] e T.mem t in
        by_reply k at.0 r.number (subst (λ (i : ℕ). At (onto older []) (commit i k) at.0) T.by at.1)
        (current_fits r m room z f.ready.sized) (last_fits r m room z f.ready.sized) l p

-- an invoke's string is no commit's
apart : (e f : Operation) (a b p : ℕ) (d : List ℕ) (s : ℕ) → invoke_string e a ≡ commit_string f b p d s → ⊥
unfolding invoke_string commit_string
apart e f a b p d s q = (let z : ◌≡◌ {A = ℕ} 73 67 = ap (λ (l : List ℕ). get_or l 0 0) q in omega arith)

-- a commit with a right tag was written
pub committed_before : (older : List Logged) (k : Commit) → k.op.count < 2 ^ 32 → k.seq < 2 ^ 32 → length k.digest ≡ 32
    → Tagger older k.author (commit_string k.op k.author k.seq k.digest k.status) → Committed (onto older []) (entry_of k) k.digest
committed_before older k h₁ h₂ h₃ (by_make op n q) = absurd (apart op k.op n k.author k.seq k.digest k.status (sym q))
committed_before older k h₁ h₂ h₃ (by_reply l o n at g₁ g₂ g₃ q) =
    let f = commit_string-fields k.op l.r.current k.author n k.seq (com_seq l) k.digest (com_digest l) k.status (com_status l) h₁ g₁ h₂ g₂ h₃ g₃ q in
    record { k = l; o = o; at = at; op = sym f.0; seq = sym f.2; digest = sym f.3; status = sym f.4 }
