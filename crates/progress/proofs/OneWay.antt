-- The lines of the eight clients: an operation is on its way up or on its way down, once; and how long messages are. Assumes nothing.
use Prim.Native.Nat.{ℕ, suc, ◌+◌, ◌≤◌}
use mathlib.Core.Path.{◌≡◌, refl, sym, ap, ◌∙◌}
use mathlib.Core.Logic.{inl, inr, ⊎_elim}
use mathlib.Core.List.Memᴰ
use mathlib.Core.List.{List, [], ◌∷◌, Memᴰ}
use mathlib.Core.Bool.{true, false, cond, true≢false}
use lib.ListN.{length}
use native.Mathlib.Omega.{arith}
use Rattle.operation.specs.declared.Operation.{Operation}
use Rattle.operation.specs.Operation.{no_op}
use Rattle.message.specs.Message.{is_invoke, is_reply, is_broadcast}
use Rattle.message.proofs.Laws as M
use Rattle.replica.specs.Replica.{no_current}
use Rattle.server.specs.declared.Server.{Server}
use Rattle.progress.specs.HonestRuns.{World, Line, start, Action, run_from}
use Rattle.progress.proofs.Invariant.{Ghost, Downs, Asks, Ups, Lines}
unfoldable pub use Rattle.progress.proofs.Invariant.{invokes}
use Rattle.progress.proofs.Lines.{asked_none, reply_none, invokes_none}
pub use Rattle.progress.proofs.Lines.{invoke-counted, other_from}
use Rattle.progress.proofs.Invoking.{no_current_lem, idle}
use Rattle.progress.proofs.NoHalt.{ghost}
use Rattle.progress.proofs.Reached.{client}

-- how many replies stand in a line
unfoldable pub replies : Line → ℕ
replies [] = 0
replies (m ∷ d) = cond (is_reply m) (suc (replies d)) (replies d)

pub reply-counted : (m : List ℕ) (d : Line) → is_reply m ≡ true → replies (m ∷ d) ≡ suc (replies d)
unfolding replies
reply-counted m d e = rw e

pub other_to : (m : List ℕ) (d : Line) → is_reply m ≡ false → replies (m ∷ d) ≡ replies d
unfolding replies
other_to m d e = rw e

-- ---- lines as the invariant has them
asks_one : (g : Ghost) (n : ℕ) (h : Operation) (u : Line) → Asks g n h u → invokes u ≤ 1
asks_one g n h [] U = let z = invokes_none in omega arith
asks_one g n h (m ∷ u) (a, e) = let x = invoke-counted m u a.form in let y : invokes u ≡ 0 = ap invokes e ∙ invokes_none in omega arith

asks_none : (g : Ghost) (n : ℕ) (u : Line) → Asks g n no_op u → invokes u ≡ 0
asks_none g n [] U = invokes_none
asks_none g n (m ∷ u) (a, e) = absurd (asked_none g n m a)

ups_one : (g : Ghost) (sv : Server) (n : ℕ) (h : Operation) (u : Line) → Ups g sv n h u → invokes u ≤ 1
ups_one g sv n h [] U = let z = invokes_none in omega arith
ups_one g sv n h (m ∷ u) (inl U) = asks_one g n h (m ∷ u) U
ups_one g sv n h (m ∷ u) (inr (s, U)) = let x = other_from m u s.other in let y = asks_one g n h u U in omega arith

ups_none : (g : Ghost) (sv : Server) (n : ℕ) (u : Line) → Ups g sv n no_op u → invokes u ≡ 0
ups_none g sv n [] U = invokes_none
ups_none g sv n (m ∷ u) (inl (a, e)) = absurd (asked_none g n m a)
ups_none g sv n (m ∷ u) (inr (s, U)) = other_from m u s.other ∙ asks_none g n u U

downs_none : (g : Ghost) (sv : Server) (n b c : ℕ) (d : Line) → Downs g sv n b no_op c d → replies d ≡ 0
unfolding replies
downs_none g sv n b c [] D = refl
downs_none g sv n b c (m ∷ d) (inl (r, D)) = absurd (reply_none g sv n c m r)
downs_none g sv n b c (m ∷ d) (inr (p, D)) = other_to m d p.other ∙ downs_none g sv n b (suc c) d D

downs_one : (g : Ghost) (sv : Server) (n b : ℕ) (h : Operation) (c : ℕ) (d : Line) → Downs g sv n b h c d → replies d ≤ 1
unfolding replies
downs_one g sv n b h c [] D = omega arith
downs_one g sv n b h c (m ∷ d) (inl (r, D)) = let x = reply-counted m d r.form in let y = downs_none g sv n b c d D in omega arith
downs_one g sv n b h c (m ∷ d) (inr (p, D)) = let x = other_to m d p.other in let y = downs_one g sv n b h (suc c) d D in omega arith

lines_one : (g : Ghost) (sv : Server) (n b : ℕ) (h : Operation) (c : ℕ) (u d : Line) → Lines g sv n b h c u d → replies d + invokes u ≤ 1
lines_one g sv n b h c u d (inl (U, D)) = let x = ups_one g sv n h u U in let y = downs_none g sv n b c d D in omega arith
lines_one g sv n b h c u d (inr (U, D)) =
    let x : invokes u ≡ 0 = ap invokes U ∙ invokes_none in let y = downs_one g sv n b h c d D in omega arith

-- an operation that is current is in one of the two
asks_some : (g : Ghost) (n : ℕ) (h : Operation) (u : Line) → (h ≡ no_op → ⊥) → Asks g n h u → 1 ≤ invokes u
asks_some g n h [] z U = absurd (z U)
asks_some g n h (m ∷ u) z (a, e) = let x = invoke-counted m u a.form in omega arith

ups_some : (g : Ghost) (sv : Server) (n : ℕ) (h : Operation) (u : Line) → (h ≡ no_op → ⊥) → Ups g sv n h u → 1 ≤ invokes u
ups_some g sv n h [] z U = absurd (z U)
ups_some g sv n h (m ∷ u) z (inl U) = asks_some g n h (m ∷ u) z U
ups_some g sv n h (m ∷ u) z (inr (s, U)) = let x = other_from m u s.other in let y = asks_some g n h u z U in omega arith

downs_some : (g : Ghost) (sv : Server) (n b : ℕ) (h : Operation) (c : ℕ) (d : Line) → (h ≡ no_op → ⊥) → Downs g sv n b h c d → 1 ≤ replies d
downs_some g sv n b h c [] z D = absurd (z D.1)
downs_some g sv n b h c (m ∷ d) z (inl (r, D)) = let x = reply-counted m d r.form in omega arith
downs_some g sv n b h c (m ∷ d) z (inr (p, D)) = let x = other_to m d p.other in let y = downs_some g sv n b h (suc c) d z D in omega arith

lines-some : (g : Ghost) (sv : Server) (n b : ℕ) (h : Operation) (c : ℕ) (u d : Line) → (h ≡ no_op → ⊥) → Lines g sv n b h c u d → 1 ≤ replies d + invokes u
lines-some g sv n b h c u d z (inl (U, D)) = let x = ups_some g sv n h u z U in omega arith
lines-some g sv n b h c u d z (inr (U, D)) = let x = downs_some g sv n b h c d z D in omega arith

-- a message that is no reply is a broadcast
downs_passed : (g : Ghost) (sv : Server) (n b : ℕ) (h : Operation) (c : ℕ) (d : Line) → Downs g sv n b h c d → (m : List ℕ) → Memᴰ m d → is_reply m ≡ false → is_broadcast m ≡ true
downs_passed g sv n b h c [] D m i e = absurd (Memᴰ.not-nil i)
downs_passed g sv n b h c (x ∷ d) (inl (r, D)) m i e =
    ⊎_elim
    (λ (q : m ≡ x). absurd (true≢false (sym r.form ∙ sym (ap is_reply q) ∙ e)))
    (λ (j : Memᴰ m d). downs_passed g sv n b no_op c d D m j e)
    (Memᴰ.cases_cons i)
downs_passed g sv n b h c (x ∷ d) (inr (p, D)) m i e =
    ⊎_elim
    (λ (q : m ≡ x). ap is_broadcast q ∙ p.form)
    (λ (j : Memᴰ m d). downs_passed g sv n b h (suc c) d D m j e)
    (Memᴰ.cases_cons i)

lines_passed : (g : Ghost) (sv : Server) (n b : ℕ) (h : Operation) (c : ℕ) (u d : Line) → Lines g sv n b h c u d → (m : List ℕ) → Memᴰ m d → is_reply m ≡ false → is_broadcast m ≡ true
lines_passed g sv n b h c u d (inl (U, D)) = downs_passed g sv n b no_op c d D
lines_passed g sv n b h c u d (inr (U, D)) = downs_passed g sv n b h c d D

-- ---- in every world of a run
module _ (keys : List ℕ) (l : length keys ≡ 256) (n : ℕ) (low : 1 ≤ n) (high : n ≤ 8) (actions : List Action) where
  abbrev w : World
  w = run_from (start keys) actions

  -- at most one invoke is on its way up or one reply on its way down, and none where no operation is current
  pub one_way : replies (w.down n) + invokes (w.up n) ≤ 1
  one_way =
      lines_one (ghost keys actions) w.server n w.server.passed (w.replica n).current (w.replica n).confirmed (w.up n) (w.down n)
      (client keys l n low high actions).lines

  pub none_current : no_current (w.replica n).current ≡ true → replies (w.down n) + invokes (w.up n) ≡ 0
  none_current e =
      let g = ghost keys actions in
      let r = w.replica n in
      let b = w.server.passed in
      let L = idle g w.server n b r.current r.confirmed (w.up n) (w.down n) (no_current_lem r.current e) (client keys l n low high actions).lines in
      let x = ups_none g w.server n (w.up n) L.0 in
      let y = downs_none g w.server n b r.confirmed (w.down n) L.1 in
      omega arith

  -- and exactly one where one is: none is lost, and none doubled
  pub some_current : no_current (w.replica n).current ≡ false → replies (w.down n) + invokes (w.up n) ≡ 1
  some_current e =
      let r = w.replica n in
      let z : r.current ≡ no_op → ⊥ = λ q. true≢false (sym (ap no_current q) ∙ e) in
      let x = lines-some (ghost keys actions) w.server n w.server.passed r.current r.confirmed (w.up n) (w.down n) z (client keys l n low high actions).lines in
      let y = one_way in
      omega arith

  -- a message to a client is a reply or a broadcast
  pub to_broadcast : (m : List ℕ) → Memᴰ m (w.down n) → is_reply m ≡ false → is_broadcast m ≡ true
  to_broadcast =
      lines_passed (ghost keys actions) w.server n w.server.passed (w.replica n).current (w.replica n).confirmed (w.up n) (w.down n)
      (client keys l n low high actions).lines

-- how long a reply and an invoke are, wherever they stand
pub reply_1315 : (m : List ℕ) → is_reply m ≡ true → length m ≤ 1315
reply_1315 m e = let x = M.reply-length m e in let y = M.reply_count_lem m e in omega arith

pub invoke_43 : (m : List ℕ) → is_invoke m ≡ true → length m ≡ 43
invoke_43 m e = M.invoke_length_lem m e
