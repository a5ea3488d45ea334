use Prim.Native.Nat.{ℕ}
use mathlib.Core.Path.{◌≡◌}
use native.Mathlib.Omega.{arith}
use Rattle.meter_log_parts.proofs.Laws.{finished, finished_not}
use Rattle.meter_log_io.proofs.finish.Goals as goal

pub returns-in-Ended : goal.returns-in-Ended
returns-in-Ended g c = finished _ c.in-Ended.is c.tell_end.ensures

pub returns-in-Some : goal.returns-in-Some
returns-in-Some g c = finished_not _ _ _ _ (λ f. let z : ◌≡◌ {A = ℕ} 0 1 = cc (f, c.in-Some.is) in omega arith)

pub returns-in-Failed : goal.returns-in-Failed
returns-in-Failed g c = finished_not _ _ _ _ (λ f. let z : ◌≡◌ {A = ℕ} 0 1 = cc (f, c.in-Failed.is) in omega arith)

pub returns-in-Limit : goal.returns-in-Limit
returns-in-Limit g c = finished_not _ _ _ _ (λ f. let z : ◌≡◌ {A = ℕ} 0 1 = cc (f, c.in-Limit.is) in omega arith)
