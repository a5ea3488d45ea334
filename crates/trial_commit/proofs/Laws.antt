-- Laws of the log, and of a commit whose broadcasts go there. Assumes nothing.
use Prim.Native.Nat.{ℕ, zero, suc, ◌+◌, ◌*◌, ◌%◌, ◌≤◌}
use mathlib.Core.Path.{◌≡◌, refl, sym, ap, ◌∙◌}
use mathlib.Core.List.{List, ◌++◌}
use lib.ListN.{length, take, drop, length-append, length-drop}
use lib.Seq.{drop-append-le, take-append-le}
use native.Mathlib.Omega.{arith}
use native.Mathlib.Numerals.{add-one}
use Rattle.slices.specs.Bytes.{put}
use Rattle.replica.specs.Replica.{over}
use Rattle.server.specs.declared.Server.{Server}
use Rattle.server.specs.Server.{ServerTold, server_step}
use Rattle.server.specs.Server as S
use Rattle.server_laws.proofs.State.{Sizes}
use Rattle.trial_core.specs.Trial.{broadcast_count, logged}
use Rattle.trial_core.proofs.Parts.{part_put}
use Rattle.trial_offer.proofs.Parts.{part_length}
use Rattle.trial_offer.proofs.ServerWrote.{server-wrote}

pub logged_none : (log bytes : List ℕ) (passed : ℕ) → log ≡ logged log passed 0 bytes
unfolding logged
logged_none log bytes passed = refl

-- one more broadcast
logged_put : (log now bytes : List ℕ) (passed k : ℕ) → now ≡ logged log passed k bytes
    → put now ((passed + k) % 512 * 80) (take 80 (drop (k * 80) bytes)) ≡ logged log passed (k + 1) bytes
unfolding logged
logged_put log now bytes passed k q = rw (add-one k, q)

pub logged_more : (log now bytes y : List ℕ) (passed k n m : ℕ) → n ≡ 80 → m ≡ 80 → k * 80 + 80 ≤ length bytes → y ≡ take m (drop (k * 80) bytes)
    → now ≡ logged log passed k bytes
    → take ((passed + k) % 512 * 80) now ++ (y ++ drop n (drop ((passed + k) % 512 * 80) now)) ≡ logged log passed (k + 1) bytes
logged_more log now bytes y passed k n m hn hm h e q =
    let b : y ≡ take 80 (drop (k * 80) bytes) = e ∙ ap (λ (x : ℕ). take x (drop (k * 80) bytes)) hm in
    let l : length y ≡ n = ap length b ∙ part_length bytes (k * 80) 80 h ∙ sym hn in
    part_put now y ((passed + k) % 512 * 80) n l ∙ ap (λ (x : List ℕ). put now ((passed + k) % 512 * 80) x) b ∙ logged_put log now bytes passed k q

part_front : (w out : List ℕ) (k : ℕ) → k + 80 ≤ length w → take 80 (drop k (over w out)) ≡ take 80 (drop k w)
part_front w out k h =
    let l : 80 ≤ length (drop k w) = omega (arith, length-drop k w) in
    rw (drop-append-le k w (drop (length w) out) (omega arith)) (take-append-le 80 (drop k w) (drop (length w) out) l)

-- broadcasts written to the front of a buffer
pub logged_over : (log : List ℕ) (passed n : ℕ) (w out : List ℕ) → n * 80 ≤ length w → logged log passed n (over w out) ≡ logged log passed n w
unfolding logged
logged_over log passed zero w out h = refl
logged_over log passed (suc n) w out h = rw (logged_over log passed n w out (omega arith), part_front w out (n * 80) (omega arith))

-- ---- a commit
module _ (s : Server) (line : ℕ) (m out log : List ℕ) (sz : Sizes s) (z : length out ≡ 2560) (y : List ℕ) where
  abbrev served : S.Step
  served = server_step s line m (length out)

  module _ (ey : y ≡ over served.wrote out) {o : ServerTold} (eo : o ≡ served.says) {n : ℕ} (en : n ≡ broadcast_count o) where
    count_is : n ≡ broadcast_count served.says
    count_is = en ∙ ap broadcast_count eo

    sent-fits : n * 80 ≤ length served.wrote
    sent-fits = rw count_is (server-wrote s sz line m (length out)).sent

    pub commit_fits : n * 80 ≤ length y
    commit_fits = rw ey (omega (arith, sent-fits, length-append served.wrote (drop (length served.wrote) out)))

    pub commit_logged : {now : List ℕ} → now ≡ logged log s.passed n y
        → now ≡ logged log s.passed (broadcast_count (server_step s line m 2560).says) (server_step s line m 2560).wrote
    commit_logged e =
        e
        ∙ ap (λ (x : List ℕ). logged log s.passed n x) ey
        ∙ logged_over log s.passed n served.wrote out sent-fits
        ∙ ap (λ (x : ℕ). logged log s.passed x served.wrote) count_is
        ∙ ap (λ (x : ℕ). logged log s.passed (broadcast_count (server_step s line m x).says) (server_step s line m x).wrote) z

  pub commit_server : served.server ≡ (server_step s line m 2560).server
  commit_server = ap (λ (x : ℕ). (server_step s line m x).server) z
