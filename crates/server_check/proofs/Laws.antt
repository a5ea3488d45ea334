-- Laws of the checks of the server's call: which number decides, and what a call without a no implies. Assumes nothing.
use Prim.Native.Nat.{ℕ, ◌+◌, ◌-◌, ◌*◌, ◌<◌, ◌≤◌}
use mathlib.Core.Path.{◌≡◌, refl, sym, ap, ◌∙◌}
use mathlib.Core.List.{List, ◌++◌}
use mathlib.Core.Bool.{Bool, true, false, cond, ◌&&◌, ◌||◌, and-false, true≢false}
use lib.Dec.{eqb}
use lib.ListN.{length, set}
use native.Mathlib.Omega.{arith}
use borrow.Author.Tests.{leb-true, ltb-true}
use Rattle.checks.specs.Checks.{first_no}
use Rattle.checks.proofs.Laws.{Among, and_yes, all_yes, first_stays, first_zero, first_among}
use Rattle.message.specs.declared.Item.{Item}
use Rattle.message.specs.declared.Commit.{Commit}
use Rattle.message.specs.Layout.{commit_mark}
use Rattle.message.specs.Content.{commit_ok}
use Rattle.message.specs.Message.{marked, is_invoke, is_commit, item_at, commit_of}
use Rattle.message.proofs.Laws.{invoke_length_lem, commit_length_lem}
use Rattle.server.specs.declared.Server.{Server}
use Rattle.server.specs.declared.ServerRefusal.{ServerRefusal}
use Rattle.server.specs.declared.ServerRefusal.TheVariants as R
use Rattle.server.specs.Server.{refusal_no, is_refusal, item_ok, in_range, leading, slot_of, stored_status, stored_server, whole_invoke, whole_commit, line_checks, placing_checks, commit_checks, server_no}
use Rattle.server.proofs.Laws.{ranged, item_author_lem}
use Rattle.server_commit_check.proofs.Laws.{place_in}

-- a refusal has a number
pub refusal_some : (r : ServerRefusal) → eqb (refusal_no r) 0 ≡ false
refusal_some R.Room = refl
refusal_some R.Range = refl
refusal_some R.Form = refl
refusal_some R.Line = refl
refusal_some R.Count = refl
refusal_some R.Pending = refl
refusal_some R.Full = refl
refusal_some R.Place = refl
refusal_some R.Committed = refl

-- ---- what the first checks imply
pub record Passed (s : Server) (m : List ℕ) : Type 0 where
  pub range : in_range s ≡ true
  pub form : (whole_invoke m || whole_commit m) ≡ true

pub line_yes : (s : Server) (line : ℕ) (m : List ℕ) → first_no 0 (line_checks s line m) ≡ 0 → Passed s m
line_yes s line m e = let y = (all_yes 0 (line_checks s line m) (refl, (refl, (refl, tt))) e).1 in record { range = y.0; form = y.1.0 }

or_left : (a b : Bool) → b ≡ false → (a || b) ≡ true → a ≡ true
or_left true b f e = refl
or_left false b f e = sym f ∙ e

or_right : (a b : Bool) → a ≡ false → (a || b) ≡ true → b ≡ true
or_right a b f e = rw f at e

and_no : (a b : Bool) → a ≡ false → (a && b) ≡ false
and_no a b f = rw f

-- an invoke is no commit
not_commit : (m : List ℕ) → is_invoke m ≡ true → is_commit m ≡ false
unfolding is_commit
not_commit m e = rw (invoke_length_lem m e) (and-false (marked commit_mark m))

pub invoke_item : (m : List ℕ) → is_invoke m ≡ true → (whole_invoke m || whole_commit m) ≡ true → item_ok (item_at m 2) ≡ true
unfolding whole_invoke whole_commit
invoke_item m i e =
    (and_yes (is_invoke m) (item_ok (item_at m 2)) (or_left (whole_invoke m) (whole_commit m) (and_no (is_commit m) _ (not_commit m i)) e)).1

pub commit_long : (m : List ℕ) → is_invoke m ≡ false → (whole_invoke m || whole_commit m) ≡ true → length m ≡ 80
unfolding whole_invoke whole_commit
commit_long m i e =
    let k = or_right (whole_invoke m) (whole_commit m) (and_no (is_invoke m) _ i) e in
    commit_length_lem m (and_yes (is_commit m) (commit_ok (commit_of m)) k).0

-- ---- what the checks of an invoke imply
pub record Placing (s : Server) (i : Item) (room : ℕ) : Type 0 where
  pub order : s.passed ≤ s.placed
  pub few : s.placed - s.passed < 32
  pub below : s.placed < 1000000
  pub enough : 3 + (s.placed - s.passed + 1) * 41 ≤ room
  pub client : (1 ≤ i.author) × (i.author ≤ 8)

-- ---- what the checks of a commit imply
pub record Storing (s : Server) (k : Commit) (room : ℕ) : Type 0 where
  pub low : s.passed ≤ 1000000
  pub first : s.passed + 1 ≤ k.seq
  pub slot : k.seq - (s.passed + 1) < 32
  pub enough : leading (set s.statuses (slot_of s k) (stored_status k.status)) * 80 ≤ room

-- ---- the call
module _ (s : Server) (line : ℕ) (m : List ℕ) (room : ℕ) where
  abbrev ins : List (Bool × ℕ)
  ins = placing_checks s (item_at m 2) room

  abbrev cos : List (Bool × ℕ)
  cos = commit_checks s (commit_of m) room

  pub no_stops : eqb (first_no 0 (line_checks s line m)) 0 ≡ false → server_no s line m room ≡ first_no 0 (line_checks s line m)
  unfolding server_no
  no_stops e = first_stays (first_no 0 (line_checks s line m)) (cond (is_invoke m) ins cos) e

  pub no_invoke : first_no 0 (line_checks s line m) ≡ 0 → is_invoke m ≡ true → server_no s line m room ≡ first_no 0 ins
  unfolding server_no
  no_invoke e i = ap (λ (b : Bool). first_no 0 (line_checks s line m ++ cond b ins cos)) i ∙ ap (λ (n : ℕ). first_no n ins) e

  pub no_commit_lem : first_no 0 (line_checks s line m) ≡ 0 → is_invoke m ≡ false → server_no s line m room ≡ first_no 0 cos
  unfolding server_no
  no_commit_lem e i = ap (λ (b : Bool). first_no 0 (line_checks s line m ++ cond b ins cos)) i ∙ ap (λ (n : ℕ). first_no n cos) e

  -- a no has one of the numbers of the server's checks
  refusals : (b : Bool) → Among is_refusal (cond b ins cos)
  refusals true = (refl, (refl, (refl, (refl, tt))))
  refusals false = (refl, (refl, (refl, tt)))

  pub no_refusal : eqb (server_no s line m room) 0 ≡ false → is_refusal (server_no s line m room) ≡ true
  unfolding server_no
  no_refusal e =
      first_among is_refusal 0 (line_checks s line m ++ cond (is_invoke m) ins cos) (λ z. absurd (true≢false z)) (refl, (refl, (refl, refusals (is_invoke m)))) e

  -- where no check has a no, none of the first has
  line-zero : server_no s line m room ≡ 0 → first_no 0 (line_checks s line m) ≡ 0
  unfolding server_no
  line-zero e = first_zero (first_no 0 (line_checks s line m)) (cond (is_invoke m) ins cos) e

  pub placing : server_no s line m room ≡ 0 → is_invoke m ≡ true → Placing s (item_at m 2) room
  placing e i =
      let l = line-zero e in
      let p = line_yes s line m l in
      let g = ranged s p.range in
      let y = (all_yes 0 ins (refl, (refl, (refl, (refl, tt)))) (sym (no_invoke l i) ∙ e)).1 in
      record {
        order = g.order;
        few = ltb-true _ _ y.1.0;
        below = ltb-true _ _ y.1.1.0;
        enough = leb-true _ _ y.1.1.1.0;
        client = item_author_lem (item_at m 2) (invoke_item m i p.form);
      }

  pub storing : server_no s line m room ≡ 0 → is_invoke m ≡ false → Storing s (commit_of m) room
  unfolding stored_server
  storing e i =
      let l = line-zero e in
      let g = ranged s (line_yes s line m l).range in
      let y = (all_yes 0 cos (refl, (refl, (refl, tt))) (sym (no_commit_lem l i) ∙ e)).1 in
      let p = place_in s (commit_of m) y.0 in
      record {
        low = omega (arith, g.order, g.low);
        first = p.0;
        slot = omega (arith, g.few, p.0, p.1);
        enough = leb-true _ _ y.1.1.0;
      }

  pub storing_long : server_no s line m room ≡ 0 → is_invoke m ≡ false → length m ≡ 80
  storing_long e i = commit_long m i (line_yes s line m (line-zero e)).form
