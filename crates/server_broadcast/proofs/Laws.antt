-- Laws of broadcasts one after the other. Assumes nothing.
use Prim.Native.Nat.{ℕ, zero, suc, ◌+◌, ◌*◌, ◌<◌, ◌≤◌}
use mathlib.Core.Path.{◌≡◌, refl, ap, ◌∙◌}
use mathlib.Core.List.{List, ◌++◌}
use lib.ListN.{length, take, drop, length-append, length-take, length-drop}
use lib.Seq.{take_at, drop-drop, drop-append-add}
use native.Mathlib.Omega.{arith}
use native.Mathlib.Numerals.{add-one}
use Rattle.message.specs.Message.{broadcast_bytes}
use Rattle.message.proofs.Laws.{broadcast-bytes-length}
use Rattle.server.specs.declared.Server.{Server}
use Rattle.server.specs.Server.{slot_digest, slot_tag, slot_commit, broadcasts}

past : (p z : List ℕ) (n m : ℕ) → length p ≡ n → drop (n + m) (p ++ drop n z) ≡ drop (n + m) z
past p z n m v = rw (← v) (drop-append-add p (drop (length p) z) m ∙ drop-drop m (length p) z)

-- ---- broadcasts one after the other
digest_length_lem : (s : Server) (k : ℕ) → length s.digests ≡ 1024 → k < 32 → length (slot_commit s k).digest ≡ 32
unfolding slot_commit slot_digest
digest_length_lem s k h l = simp (length-take, length-drop) (omega arith)

tag_length_lem : (s : Server) (k : ℕ) → length s.tags ≡ 1024 → k < 32 → length (slot_commit s k).tag ≡ 32
unfolding slot_commit slot_tag
tag_length_lem s k h l = simp (length-take, length-drop) (omega arith)

module _ (s : Server) (hd : length s.digests ≡ 1024) (ht : length s.tags ≡ 1024) where
  one_length : (k : ℕ) → k < 32 → length (broadcast_bytes (slot_commit s k)) ≡ 80
  one_length k l = broadcast-bytes-length (slot_commit s k) (digest_length_lem s k hd l) (tag_length_lem s k ht l)

  pub broadcasts-length : (n : ℕ) → n ≤ 32 → length (broadcasts s n) ≡ n * 80
  unfolding broadcasts
  broadcasts-length zero l = refl
  broadcasts-length (suc n) l =
      rw (length-append (broadcasts s n) (broadcast_bytes (slot_commit s n)))
      (omega (arith, broadcasts-length n (omega arith), one_length n (omega arith)))

pub broadcasts_more : {y : List ℕ} (s : Server) (z out : List ℕ) (k : ℕ) → k * 80 ≤ length z → length out ≡ length z → out ≡ broadcasts s k ++ drop (k * 80) z
    → y ≡ take (k * 80) out ++ broadcast_bytes (slot_commit s k) ++ drop (k * 80 + 80) out → y ≡ broadcasts s (k + 1) ++ drop ((k + 1) * 80) z
unfolding broadcasts
broadcasts_more s z out k l e q w =
    let p : List ℕ = broadcasts s k in
    let n : ℕ = k * 80 in
    let v : length p ≡ n = omega (arith, e, ap length q, length-append p (drop n z), length-drop n z) in
    let t : take n (p ++ drop n z) ≡ p = take_at p (drop n z) n v in
    let r : drop (n + 80) (p ++ drop n z) ≡ drop (n + 80) z = past p z n 80 v in
    let m : broadcasts s (k + 1) ≡ p ++ broadcast_bytes (slot_commit s k) = rw add-one in
    let f : (k + 1) * 80 ≡ n + 80 = omega arith in
    w ∙ rw (q, t, r, f, m)
