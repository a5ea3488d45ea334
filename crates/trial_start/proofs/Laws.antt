-- The keys, one after the other, and the start. Assumes nothing.
use Prim.Native.Nat.{ℕ, zero, suc, ◌+◌, ◌*◌, ◌≤◌}
use mathlib.Core.Path.{◌≡◌, refl, sym, ap, ◌∙◌}
use mathlib.Core.List.{List, [], ◌∷◌, ◌++◌, append-nil}
use lib.ListN.{length, take, drop, replicate, length-append, length-replicate, drop_of_length-le}
use native.Mathlib.Omega.{arith}
use native.Mathlib.Numerals.{add-one}
use Rattle.slices.specs.Bytes.{put}
use Rattle.message.proofs.Laws.{put_next}
use Rattle.replica.specs.declared.Replica.{Replica}
use Rattle.client_open.specs.Open.{open_step}
use Rattle.server.specs.declared.Server.{Server}
use Rattle.server.specs.Server.{fresh_server}
use Rattle.trial_core.specs.declared.Lines.{Lines}
use Rattle.trial_core.specs.declared.Trial.{Trial}
use Rattle.trial_core.proofs.Parts.{part_put}
use Rattle.trial_core.specs.Trial.{keys_to, trial_keys, replicas_to, start_trial}

keys_length_lem : (n : ℕ) → length (keys_to n) ≡ n * 32
unfolding keys_to
keys_length_lem zero = refl
keys_length_lem (suc n) = length-append (keys_to n) (replicate 32 (suc n)) ∙ omega (arith, keys_length_lem n, length-replicate 32 (suc n))

pub keys_none : (z : List ℕ) → z ≡ keys_to 0 ++ drop (0 * 32) z
unfolding keys_to
keys_none z = refl

-- one more key
keys_put : (z keys k : List ℕ) (i : ℕ) → keys ≡ keys_to i ++ drop (i * 32) z → k ≡ replicate 32 (i + 1)
    → put keys (i * 32) k ≡ keys_to (i + 1) ++ drop ((i + 1) * 32) z
unfolding keys_to
keys_put z keys k i e h =
    let l : length k ≡ 32 = ap length h ∙ length-replicate 32 (i + 1) in
    let s : k ≡ replicate 32 (suc i) = h ∙ ap (λ (n : ℕ). replicate 32 n) (add-one i) in
    let p : put (keys_to i ++ drop (i * 32) z) (i * 32) k ≡ keys_to i ++ k ++ drop ((i + 1) * 32) z = put_next (keys_to i) z k (i * 32) ((i + 1) * 32) (keys_length_lem i) (omega arith) in
    let m : keys_to i ++ k ≡ keys_to (i + 1) = rw (add-one i) (ap (λ (x : List ℕ). keys_to i ++ x) s) in
    ap (λ (x : List ℕ). put x (i * 32) k) e ∙ p ∙ ap (λ (x : List ℕ). x ++ drop ((i + 1) * 32) z) m

pub keys_more : (z keys k : List ℕ) (i n : ℕ) → n ≡ 32 → keys ≡ keys_to i ++ drop (i * 32) z → k ≡ replicate 32 (i + 1)
    → take (i * 32) keys ++ (k ++ drop n (drop (i * 32) keys)) ≡ keys_to (i + 1) ++ drop ((i + 1) * 32) z
keys_more z keys k i n en e h =
    part_put keys k (i * 32) n (ap length h ∙ length-replicate 32 (i + 1) ∙ sym en) ∙ keys_put z keys k i e h

pub keys_all : (z keys : List ℕ) (i : ℕ) → length z ≡ 256 → i ≡ 8 → keys ≡ keys_to i ++ drop (i * 32) z → keys ≡ keys_to 8
keys_all z keys i l h e =
    let g : length z ≤ 8 * 32 = omega arith in
    e ∙ ap (λ (n : ℕ). keys_to n ++ drop (n * 32) z) h ∙ ap (λ (x : List ℕ). keys_to 8 ++ x) (drop_of_length-le z g) ∙ append-nil (keys_to 8)

-- ---- the start
module _ {a b c d e f g h : Replica}
    (ea : a ≡ (open_step 1 trial_keys).replica) (eb : b ≡ (open_step 2 trial_keys).replica) (ec : c ≡ (open_step 3 trial_keys).replica) (ed : d ≡ (open_step 4 trial_keys).replica)
    (ee : e ≡ (open_step 5 trial_keys).replica) (ef : f ≡ (open_step 6 trial_keys).replica) (eg : g ≡ (open_step 7 trial_keys).replica) (eh : h ≡ (open_step 8 trial_keys).replica) where
  pub eight : (a ∷ b ∷ c ∷ d ∷ e ∷ f ∷ g ∷ h ∷ []) ≡ replicas_to 8
  unfolding replicas_to
  eight = rw (ea, eb, ec, ed, ee, ef, eg, eh)

pub started : {rs : List Replica} {s : Server} {l : Lines} → rs ≡ replicas_to 8 → s ≡ fresh_server → l ≡ start_trial.lines
    → ◌≡◌ {A = Trial} (record { replicas = rs; server = s; lines = l }) start_trial
unfolding start_trial
started er es el = rw (er, es, el)
