-- The whole lines of a buffer, call by call of `tell_lines`, and what is kept of the rest. Assumes nothing.
use Prim.Native.Nat.{ℕ, suc, ◌+◌, ◌-◌, ◌<◌, ◌≤◌, ◌%◌, ◌^◌}
use mathlib.Core.Path.{◌≡◌, refl, sym, ap, ◌∙◌}
use mathlib.Core.List.{List, [], ◌∷◌, ◌++◌, append_assoc}
use mathlib.Core.Bool.{Bool, true, false}
use mathlib.Core.Logic.{inl, inr}
use native.Mathlib.Omega.{arith}
use borrow.Author.Tests.{lt-ltb}
use lib.ListN.{length, take, drop, length-append, length-drop, length-take}
use lib.Seq.{length-take-le}
use Rattle.slices.specs.Bytes.{put}
use Rattle.text.specs.Text.{place_of, cut}
use Rattle.text.proofs.Cuts.{cut_none, cut-some, place-most}
use Rattle.text.proofs.Filled.{filled_none, filled_more}
use Rattle.text.proofs.Joins.{piece_all, piece_to}
use Rattle.text.proofs.Parts.{part_drop, part_join}
use Rattle.input.specs.declared.Brought.{Brought}
use Rattle.input.specs.declared.Brought.TheVariants as B
use Rattle.output.specs.declared.Sent.{Sent}
use Rattle.output.specs.Sends.{Sends}
use Rattle.output.proofs.Laws.{sends-join}
use Rattle.meter_log_told.specs.declared.Log.{Log}
use Rattle.meter_log_told.specs.declared.LogStep.{LogStep}
use Rattle.meter_log_told.specs.Told.{line_limit, tell_long, tell_whole, tell_last}
use Rattle.meter_log_put.specs.Text.{told_bytes}
use Rattle.meter_log_lines.specs.declared.TextTold.{TextTold}
use Rattle.meter_log_lines.specs.Lines.{Run, run_whole, Tells}
use Rattle.meter_log_lines.specs.Printed.{run_last}
use Rattle.meter_log_lines.proofs.Laws.{run_then}
use Rattle.meter_log_parts.specs.declared.State.{State}
use Rattle.std.specs.declared.option.Option.{Option}
use Rattle.std.specs.Prelude.{Some, None, is_none}
use Rattle.meter_log_parts.specs.Whole.{between, held_of, Stands, all, over, run_at, Past, OneMore, AllTold, Came, LastTold, Finished}

-- nothing more was sent
pub sends_none : (s : Sent) → s.bytes < 2 ^ 64 → Sends s 0 s
sends_none s h = record { before = λ g. g; counted = λ g. omega (arith, h) }

-- runs of states one after the other
pub runs : (w₀ w₁ w₂ : State) (p q : List ℕ) (ps qs : List (List ℕ)) → run_at w₁ p ≡ run_whole (run_at w₀ []) ps → run_at w₂ q ≡ run_whole (run_at w₁ []) qs → run_at w₂ (p ++ q) ≡ run_whole (run_at w₀ []) (ps ++ qs)
runs w₀ w₁ w₂ p q ps qs a b = run_then w₀.log w₁.log w₂.log w₀.number w₁.number w₂.number p q ps qs a b

pub sent_both : {s₀ s₁ s₂ : Sent} (p q : List ℕ) → Sends s₀ (length p) s₁ → Sends s₁ (length q) s₂ → Sends s₀ (length (p ++ q)) s₂
sent_both p q a b = rw (length-append p q) (sends-join a b)

-- the lines from `start` to `at` were told; where the last call used nothing, no whole line is left
pub record Passing (w₀ : State) (s : List ℕ) (start n : ℕ) (w : State) (at used : ℕ) : Type 0 where
  pub told : List (List ℕ)
  pub printed : List ℕ
  pub low : start ≤ at
  pub within : at ≤ n
  pub few : w.number + start ≤ w₀.number + at
  pub pieces : cut 10 (between s start n) ≡ told ++ cut 10 (between s at n)
  pub run : run_at w printed ≡ run_whole (run_at w₀ []) told
  pub sent : Sends w₀.sent (length printed) w.sent
  pub ends : used ≡ 0 → cut 10 (between s at n) ≡ between s at n ∷ []

pub passing_none : (w : State) (s : List ℕ) (start n : ℕ) → w.sent.bytes < 2 ^ 64 → start ≤ n → Passing w s start n w start 1
unfolding run_whole
passing_none w s start n b h =
    record {
      told = [];
      printed = [];
      low = omega arith;
      within = h;
      few = omega arith;
      pieces = refl;
      run = refl;
      sent = sends_none w.sent b;
      ends = λ z. absurd (omega (arith, z));
    }

none_left :
    {g : Log} {m : ℕ} {text out out' : List ℕ} {r : TextTold} →
    64 ≤ length out →
    Tells g m text out r out' →
    r.used ≡ 0 →
    cut 10 (drop r.used text) ≡ drop r.used text ∷ []
none_left h a z = elim a.ends [ inl q ↦ q | inr q ↦ absurd (omega (arith, q, a.some z, h)) ]

pub passing_more :
    {w₀ : State} {s : List ℕ} {start n : ℕ} {w : State} {at used : ℕ} {out out' : List ℕ} {r : TextTold} {e' : Sent} →
    64 ≤ length out →
    Passing w₀ s start n w at used →
    Tells w.log w.number (between s at n) out r out' →
    Sends w.sent (length (take r.filled out')) e' →
    Passing w₀ s start n (record { log = r.log; number = w.number + r.count; sent = e' }) (at + r.used) r.used
passing_more {w₀} {s} {start} {n} {w} {at} {out' = out'} {r = r} {e' = e'} h k a y =
    let e : drop r.used (between s at n) ≡ between s (at + r.used) n = part_drop s at r.used n in
    let m : length (between s at n) ≤ n - at = omega (arith, length-take (n - at) (drop at s)) in
    let p = take r.filled out' in
    record {
      told = k.told ++ a.told;
      printed = k.printed ++ p;
      low = omega (arith, k.low);
      within = omega (arith, k.within, a.within, m);
      few = omega (arith, k.few, a.each);
      pieces =
          k.pieces
          ∙ ap (λ (x : List (List ℕ)). k.told ++ x) (a.pieces ∙ ap (λ (x : List ℕ). a.told ++ cut 10 x) e)
          ∙ sym (append_assoc k.told a.told (cut 10 (between s (at + r.used) n)));
      run = runs w₀ w (record { log = r.log; number = w.number + r.count; sent = e' }) k.printed p k.told a.told k.run a.run;
      sent = sent_both k.printed p k.sent y;
      ends = λ z. rw e at (none_left h a z);
    }

pub passing_past : {w₀ : State} {s : List ℕ} {start n : ℕ} {w : State} {at used : ℕ} → used ≡ 0 → Passing w₀ s start n w at used → Past w₀ (between s start n) (between s at n) w
passing_past z k =
    record {
      told = k.told;
      printed = k.printed;
      pieces = k.pieces ∙ ap (λ (x : List (List ℕ)). k.told ++ x) (k.ends z);
      run = k.run;
      sent = k.sent;
    }

-- ---- what is kept of the bytes from `at` to n: nothing, or the first bytes of s', which are these
module _ (s : List ℕ) (at n : ℕ) (g : at ≤ n) (h : n ≤ length s) (room : length s ≡ line_limit + 1) where
  width : length (between s at n) ≡ n - at
  width = length-take-le (n - at) (drop at s) (omega (arith, length-drop at s))

  pub keeps_over : n - at ≡ length s → Stands true [] (between s at n)
  keeps_over e = over {p = between s at n} refl (omega (arith, width, room, e))

  pub keeps_all : (s' : List ℕ) → take (n - at) s' ≡ take (n - at) (drop at s) → (n - at ≡ length s → ⊥) → Stands false (take (n - at) s') (between s at n)
  keeps_all s' f e = all {p = between s at n} f (omega (arith, width, room, e))

pub whole :
    {w : State} {t u : List ℕ} {w' : State} {k : Option ℕ} {buf' : List ℕ} →
    Past w t u w' →
    Stands (is_none k) (take (held_of k) buf') u →
    AllTold w t w' k buf'
whole {u = u} p a = record { rest = u; past = p; kept = a }

-- ---- an over-long line goes on
long-whole : (g : Log) (p : List ℕ) → line_limit < length p → tell_whole g p ≡ tell_long g
unfolding tell_whole
long-whole g p h = rw (lt-ltb line_limit (length p) h)

-- what is printed for an over-long line
abbrev long_bytes : State → List ℕ
long_bytes w = told_bytes (w.number + 1) (tell_long w.log).told

long_run :
    (w w₁ : State) (p : List ℕ) →
    line_limit < length p →
    w₁.log ≡ (tell_long w.log).log →
    w₁.number ≡ w.number + 1 →
    run_at w₁ (long_bytes w) ≡ run_whole (run_at w []) (p ∷ [])
unfolding run_whole
long_run w w₁ p h e f = rw (long-whole w.log p h, e, f)

over_long : {s p : List ℕ} → Stands true s p → line_limit < length p
over_long (over e h) = h

module _ (s : List ℕ) (n e : ℕ) (m : n ≤ length s) (q : e ≡ 0 + place_of 10 (between s 0 n)) where
  abbrev x : List ℕ
  x = between s 0 n

  wide : length x ≡ n
  wide = length-take-le (n - 0) s (omega (arith, m)) ∙ omega arith

  pub over_within : e ≤ n
  over_within = omega (arith, q, wide, place-most 10 x)

  -- no line feed: all of it is of that line
  pub over_all : (w : State) (buf : List ℕ) → w.sent.bytes < 2 ^ 64 → e ≡ n → 0 < length buf → Came w true [] x w None buf
  unfolding run_whole
  over_all w buf f h b =
      record {
        whole =
            λ p one st.
            record {
              rest = p ++ x;
              past =
                  record {
                    told = [];
                    printed = [];
                    pieces = piece_all 10 p x one (cut_none 10 x (omega (arith, q, h, wide)));
                    run = refl;
                    sent = sends_none w.sent f;
                  };
              kept = over {p = p ++ x} refl (omega (arith, over_long st, length-append p x));
            };
        room = b;
      }

  -- a line feed at e: it is told there, and what comes after it is told as after its end
  pub over_to :
      (w : State) {w₁ w' : State} {d : LogStep} {out : List ℕ} {k : Option ℕ} {buf : List ℕ} →
      (e ≡ n → ⊥) →
      d ≡ tell_long w.log →
      OneMore w d w₁ out →
      AllTold w₁ (between s (e + 1) n) w' k buf →
      held_of k < length buf →
      Came w true [] x w' k buf
  over_to w {w₁} {w'} {d} {out} {k} h l' o' a b₁ =
      let l : OneMore w (tell_long w.log) w₁ out = rw l' at o' in
      let f : place_of 10 x < length x = omega (arith, q, h, wide, over_within) in
      let i : suc (place_of 10 x) ≡ e + 1 = omega (arith, q) in
      let j : 0 + (e + 1) ≡ e + 1 = omega arith in
      let v = take (place_of 10 x) x in
      let u = between s (e + 1) n in
      let y' : drop (e + 1) x ≡ u = part_drop s 0 (e + 1) n ∙ ap (λ (z : ℕ). between s z n) j in
      let c : cut 10 x ≡ v ∷ cut 10 u = cut-some 10 x f ∙ ap (λ (z : ℕ). v ∷ cut 10 (drop z x)) i ∙ ap (λ (z : List ℕ). v ∷ cut 10 z) y' in
      record {
        whole =
            λ p one st.
            let o = p ++ v in
            let b : line_limit < length o = omega (arith, over_long st, length-append p v) in
            let r = long_bytes w in
            let y = a.past in
            record {
              rest = a.rest;
              past =
                  record {
                    told = o ∷ y.told;
                    printed = r ++ y.printed;
                    pieces = piece_to 10 p x one v (cut 10 u) c ∙ ap (λ (z : List (List ℕ)). o ∷ z) y.pieces;
                    run = runs w w₁ w' r y.printed (o ∷ []) y.told (long_run w w₁ o b l.log l.number) y.run;
                    sent = sent_both r y.printed l.sent y.sent;
                  };
              kept = a.kept;
            };
        room = b₁;
      }

-- ---- what came, by what was kept
pub stands_all : {s p : List ℕ} → Stands false s p → s ≡ p
stands_all (all e h) = e

module _ {w : State} (o : Bool) (s : List ℕ) (held n : ℕ) {w' : State} {k : Option ℕ} {buf : List ℕ} where
  pub came_over : o ≡ true → held ≡ 0 → Came w true [] (between s 0 n) w' k buf → Came w o (take held s) (between s held n) w' k buf
  came_over e h c = rw (e, h) c

  pub came_held : o ≡ false → held ≤ n → n ≤ length s → AllTold w (between s 0 n) w' k buf → held_of k < length buf → Came w o (take held s) (between s held n) w' k buf
  came_held e h m a b₁ =
      let z : held - 0 ≡ held = omega arith in
      let j : take held s ++ between s held n ≡ between s 0 n = ap (λ (i : ℕ). take i s ++ between s held n) (sym z) ∙ part_join s 0 held n (omega arith) h m in
      record {
        whole =
            λ p one st.
            let f : p ++ between s held n ≡ between s 0 n = ap (λ (y : List ℕ). y ++ between s held n) (sym (stands_all (rw e at st))) ∙ j in
            rw f a;
        room = b₁;
      }

-- ---- one line, told from the front of `out` on
put_front : (z y t : List ℕ) (r : ℕ) → r ≡ 0 + length t → y ≡ put z 0 t → r ≤ length z → take (length t) y ≡ t
put_front z y t r e f h = let g : length t ≡ r = omega (arith, e) in rw g (filled_more (filled_none z) y t r f e h).front

pub one_more :
    (w : State) (d : LogStep) (out out' : List ℕ) (k : ℕ) (e' : Sent) →
    64 ≤ length out →
    (k ≡ 0 + length (told_bytes (w.number + 1) d.told)) × (out' ≡ put out 0 (told_bytes (w.number + 1) d.told)) × (k ≤ 0 + 64) →
    Sends w.sent (length (take k out')) e' →
    OneMore w d (record { log = d.log; number = w.number + 1; sent = e' }) out'
one_more w d out out' k e' h b y =
    let t = told_bytes (w.number + 1) d.told in
    let g : k ≡ length t = omega (arith, b.0) in
    let f : take (length t) out' ≡ t = put_front out out' t k b.0 b.1 (omega (arith, b.2, h)) in
    let l : length (take k out') ≡ length t = ap (λ (i : ℕ). length (take i out')) g ∙ ap length f in
    record { log = refl; number = refl; written = f; sent = rw l at y }

-- ---- the last line
last_some : (w : State) (p : List ℕ) → 0 < length p → (run_last (run_at w []) p).printed ≡ told_bytes (w.number + 1) (tell_last w.log p).told
unfolding run_last
last_some w [] h = absurd (omega (arith, h))
last_some w (b ∷ p) h = refl

last_none : (w : State) → (run_last (run_at w []) []).printed ≡ []
unfolding run_last
last_none w = refl

long_last : (g : Log) (p : List ℕ) → line_limit < length p → tell_last g p ≡ tell_long g
unfolding tell_last
long_last g p h = rw (lt-ltb line_limit (length p) h)

pub held_none : (s : List ℕ) (n : ℕ) → n ≡ 0 → take n s ≡ []
held_none s n e = rw e

pub held-some : (s : List ℕ) (n : ℕ) → n ≤ length s → (n ≡ 0 → ⊥) → 0 < length (take n s)
held-some s n h e = omega (arith, length-take-le n s h, e)

-- nothing is held: there is no last line
pub ended_none : (w : State) (s : List ℕ) (o : Bool) → w.sent.bytes < 2 ^ 64 → o ≡ false → s ≡ [] → LastTold w o s w.sent
ended_none w s o b e f =
    record { last = λ p st. let q : p ≡ [] = sym (stands_all (rw e at st)) ∙ f in rw (q, last_none w) (sends_none w.sent b) }

last_told :
    (w : State) (p : List ℕ) {d : LogStep} {w' : State} {out : List ℕ} →
    0 < length p →
    d ≡ tell_last w.log p →
    OneMore w d w' out →
    Sends w.sent (length (run_last (run_at w []) p).printed) w'.sent
last_told w p {d} {w'} {out} z e m = let l : OneMore w (tell_last w.log p) w' out = rw e at m in rw (last_some w p z) l.sent

module _ (w : State) (s : List ℕ) (o : Bool) {d : LogStep} {w' : State} {out : List ℕ} where
  pub ended_over : o ≡ true → d ≡ tell_long w.log → OneMore w d w' out → LastTold w o s w'.sent
  ended_over e f m =
      record { last = λ p st. let l = over_long (rw e at st) in last_told w p (omega (arith, l)) (f ∙ sym (long_last w.log p l)) m }

  pub ended_last : o ≡ false → 0 < length s → d ≡ tell_last w.log s → OneMore w d w' out → LastTold w o s w'.sent
  ended_last e z f m =
      record { last = λ p st. let q : s ≡ p = stands_all (rw e at st) in last_told w p (omega (arith, z, ap length q)) (f ∙ ap (tell_last w.log) q) m }

-- ---- only where the input ended
pub finished : {b : Brought} (w : State) {o : Bool} {s : List ℕ} {r : Sent} → b ≡ B.Ended → LastTold w o s r → Finished b w o s r
finished w e l = record { ended = λ f. l; not_yet = λ n. absurd (n e) }

pub finished_not : (b : Brought) (w : State) (o : Bool) (s : List ℕ) → (b ≡ B.Ended → ⊥) → Finished b w o s w.sent
finished_not b w o s n = record { ended = λ e. absurd (n e); not_yet = λ f. refl }
