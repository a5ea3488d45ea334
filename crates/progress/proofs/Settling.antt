-- Own items placed past the last confirmed one have a status, or their reply is on its way: after each step. Assumes nothing.
use Prim.Native.Nat.{ℕ, suc, ◌+◌, ◌-◌, ◌<◌, ◌≤◌}
use mathlib.Core.Path.{◌≡◌, refl, sym, ap, ◌∙◌}
use mathlib.Core.Logic.{inl, inr, ⊎_elim}
use mathlib.Core.List.{List, [], ◌∷◌, ◌++◌}
use mathlib.Core.Bool.{true, false}
use lib.ListN.{length}
use native.Mathlib.Omega.{arith}
use native.Mathlib.Decide.{ℕ_discrete}
use Rattle.operation.specs.Operation.{no_op}
use Rattle.message.specs.Message.{is_reply, reply_count}
use Rattle.replica.specs.Places.{status_at, hold_status, confirm_status}
use Rattle.replica.proofs.Places.{status-put, status_other, confirm_status_lem}
use Rattle.client_laws.proofs.Chain.{le-or-lt}
use Rattle.server.specs.declared.Server.{Server}
use Rattle.progress.specs.HonestRuns.{Line}
use Rattle.progress.proofs.Invariant.{Ghost, Downs, reply_seq, Settled}
use Rattle.progress.proofs.Lines.{reply_none}

-- ---- the reply in a line
pub seq_passed : (c : ℕ) (m : List ℕ) (d : Line) → is_reply m ≡ false → reply_seq c (m ∷ d) ≡ reply_seq (suc c) d
unfolding reply_seq
seq_passed c m d e = rw e

pub seq_replied : (c : ℕ) (m : List ℕ) (d : Line) → is_reply m ≡ true → reply_seq c (m ∷ d) ≡ c + reply_count m
unfolding reply_seq
seq_replied c m d e = rw e

-- a message that is no reply, at the end
pub seq_end : (c : ℕ) (d : Line) (m : List ℕ) → is_reply m ≡ false → reply_seq c (d ++ (m ∷ [])) ≡ reply_seq c d
unfolding reply_seq
seq_end c [] m e = rw e
seq_end c (x ∷ d) m e = rw (seq_end (suc c) d m e)

module _ (g : Ghost) (sv : Server) (n b : ℕ) where
  -- none, where no operation awaits one
  pub seq_none : (c : ℕ) (d : Line) → Downs g sv n b no_op c d → reply_seq c d ≡ 0
  unfolding reply_seq
  seq_none c [] D = refl
  seq_none c (m ∷ d) (inl (r, D)) = absurd (reply_none g sv n c m r)
  seq_none c (m ∷ d) (inr (p, D)) = rw p.other (seq_none (suc c) d D)

  -- and that which is put there
  pub seq-reply : (c : ℕ) (d : Line) (m : List ℕ) → Downs g sv n b no_op c d → is_reply m ≡ true → reply_seq c (d ++ (m ∷ [])) ≡ b + reply_count m
  unfolding reply_seq
  seq-reply c [] m D e = rw e (ap (λ (x : ℕ). x + reply_count m) D.0)
  seq-reply c (x ∷ d) m (inl (r, D)) e = absurd (reply_none g sv n c x r)
  seq-reply c (x ∷ d) m (inr (p, D)) e = rw p.other (seq-reply (suc c) d m D e)

-- ---- the statuses
module _ (g : Ghost) (n c : ℕ) (statuses : List ℕ) where
  -- items placed since are not its own
  pub settled_others : (s t p : ℕ) → ((q : ℕ) → s ≤ q → q < t → (g.at (suc q)).author ≡ n → ⊥) → Settled g s n c statuses p → Settled g t n c statuses p
  settled_others s t p f S j h a = ⊎_elim (λ (l : s ≤ c + j). absurd (f (c + j) l h a)) (λ (l : c + j < s). S j l a) (le-or-lt s (c + j))

  -- one item more, whose reply is the one on its way
  pub settled_placed : (s : ℕ) → Settled g s n c statuses 0 → Settled g (s + 1) n c statuses (s + 1)
  settled_placed s S j h a =
      ⊎_elim
      (λ (l : s ≤ c + j). inl (omega arith))
      (λ (l : c + j < s). ⊎_elim (λ (e : suc (c + j) ≡ 0). absurd (omega arith)) (λ (f : status_at c j statuses ≡ 0 → ⊥). inr f) (S j l a))
      (le-or-lt s (c + j))

  -- the place after c is confirmed
  pub settled_confirmed : (t p : ℕ) → Settled g t n c statuses p → Settled g t n (c + 1) (confirm_status c statuses) p
  settled_confirmed t p S j h a =
      let e : c + (j + 1) ≡ c + 1 + j = omega arith in
      ⊎_elim
      (λ (q : suc (c + (j + 1)) ≡ p). inl (ap suc (sym e) ∙ q))
      (λ (f : status_at c (j + 1) statuses ≡ 0 → ⊥). inr (λ z. f (sym (confirm_status_lem c statuses j) ∙ z)))
      (S (j + 1) (omega arith) (ap (λ (x : ℕ). (g.at (suc x)).author) e ∙ a))

  -- the reply is taken: its last item gets a status
  pub settled_replied : (t k x p : ℕ) → 1 ≤ k → k ≤ length statuses → (x ≡ 0 → ⊥) → Settled g t n c statuses (c + k)
      → Settled g t n c (hold_status c (k - 1) x statuses) p
  settled_replied t k x p some few y S j h a = inr (go (ℕ_discrete j (k - 1)))
    where
      go : Dec (j ≡ k - 1) → status_at c j (hold_status c (k - 1) x statuses) ≡ 0 → ⊥
      go (yes e) z = y (sym (status-put c (k - 1) x statuses (omega arith)) ∙ ap (λ (i : ℕ). status_at c i (hold_status c (k - 1) x statuses)) (sym e) ∙ z)
      go (no m) z =
          ⊎_elim
          (λ (e : suc (c + j) ≡ c + k). m (omega arith))
          (λ (f : status_at c j statuses ≡ 0 → ⊥). f (sym (status_other c (k - 1) x statuses j m) ∙ z))
          (S j h a)
