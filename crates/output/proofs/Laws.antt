-- Sends one after the other. Assumes nothing.
use Rattle.std.proofs.Common.{◌≡◌, ℕ, ◌+◌, ◌%◌, ◌^◌, ap, ◌∙◌, add_assoc}
use native.Mathlib.Nat.{mod-add-mod}
use Rattle.output.specs.declared.Sent.{Sent}
use Rattle.output.specs.Sends.{Sends}

-- bytes sent after others are as many together
pub sends-join : {s m r : Sent} {a b : ℕ} → Sends s a m → Sends m b r → Sends s (a + b) r
sends-join {s} {m} {r} {a} {b} p q =
    record {
      before = λ g. p.before (q.before g);
      counted = λ g.
          q.counted g
          ∙ ap (λ (x : ℕ). (x + b) % 2 ^ 64) (p.counted (q.before g))
          ∙ mod-add-mod (s.bytes + a) (2 ^ 64) b
          ∙ ap (λ (x : ℕ). x % 2 ^ 64) (add_assoc s.bytes a b);
    }
