-- The program's loop over its reads, and what it answers. Assumes nothing.
use Rattle.std.specs.declared.option.Option.{Option}
use Rattle.std.specs.declared.io.Error.{Error}
use Prim.Native.Nat.{ℕ, ◌+◌, ◌-◌, ◌%◌, ◌^◌, ◌≤◌, ◌<◌}
use mathlib.Core.Path.{◌≡◌, refl, sym, ap, ◌∙◌}
use Rattle.std.specs.Prelude.{Some, None, IsNone, is_some, is_none}
use mathlib.Core.Bool.{Bool, true, false, not, cond, ◌&&◌, true≢false}
use mathlib.Core.List.{List, [], ◌∷◌, ◌++◌}
use native.Mathlib.Omega.{arith}
use lib.ListN.{length, take, drop, replicate, length-append, length-take, length-drop, take-append-drop}
use lib.Seq.{take-take, length-take-le}
use Rattle.text.proofs.Laws.{either}
use Rattle.input.specs.declared.Brought.{Brought}
use Rattle.input.specs.declared.Brought.TheVariants as B
use Rattle.input.specs.declared.Input.{Input}
use Rattle.input.specs.Reads.{goes_on, Reads}
use Rattle.output.specs.declared.Sent.{Sent}
use Rattle.tool.specs.declared.Why.{Why}
use Rattle.tool.specs.declared.Why.TheVariants as W
use Rattle.tool.specs.Tool.{why_of, is_caused}
use Rattle.tool.proofs.Laws.{why_caused}
use Rattle.trial_core.specs.declared.Trial.{Trial}
use Rattle.trial_core.specs.Trial.{Lent, start_trial, start_lent}
use Rattle.trial_core.specs.Moves.{lent_of}
use Rattle.trial_core.specs.Sizes.{log_length, replies_length, invokes_length}
use Rattle.trial_bytes.specs.Held.{Ends}
use Rattle.trial_io.specs.declared.Reading.{Reading}
use Rattle.tool.specs.declared.Done.{Done}
use Rattle.trial_io.specs.Printed.{printed_of, printed_whole}
use Rattle.trial_buffer.specs.Whole.{Whole}
use Rattle.trial_io.specs.Reached.{Reached, ReachedBy, ReadTo, Ran, at_end}
use Rattle.trial_io.proofs.Reached.{reached_none, reached_more, sent-whole, sent_all}

-- between two reads
pub record Going (t : Trial) (b : Lent) (number held : ℕ) (s : Sent) (total : ℕ) (br : Brought) (going : Bool) (buf : List ℕ) : Type 0 where
  pub by : ReachedBy total t b number s (take held buf)
  pub room : held < length buf
  pub size : length buf ≡ 65536
  pub few : number + held ≤ total
  pub below : total < 2 ^ 64 - 1
  pub stops : going ≡ false → IsNone s.failed → goes_on br ≡ false
  pub limit : br ≡ B.Limit → 2 ^ 64 - 65537 ≤ total

pub going_none : (t : Trial) (b : Lent) (s : Sent) (buf : List ℕ) → t ≡ start_trial → b ≡ start_lent → s.bytes ≡ 0 → length buf ≡ 65536 → Going t b 0 0 s 0 B.Some true buf
going_none t b s buf et eb es l =
    record {
      by = record { input = []; all = refl; reached = rw (et, eb) (reached_none s es) };
      room = omega (arith, l);
      size = l;
      few = omega arith;
      below = omega arith;
      stops = λ e. absurd (true≢false e);
      limit = λ e. absurd (let z : ◌≡◌ {A = ℕ} 0 1 = cc e in omega arith);
    }

limit-stops : goes_on B.Limit ≡ false
unfolding goes_on
limit-stops = refl

pub not_flip : (x y : Bool) → x ≡ not y → y ≡ not x
not_flip x true e = sym (ap not e)
not_flip x false e = sym (ap not e)

both_false : (x y : Bool) → x && y ≡ false → y ≡ true → x ≡ false
both_false true true e f = e
both_false true false e f = absurd (true≢false (sym f))
both_false false y e f = refl

both_true : (x y : Bool) → x && y ≡ true → x ≡ true
both_true true y e = refl
both_true false y e = e

module _ {s x : List ℕ} {held total : ℕ} {r : Input} (d : Reads s x held total r) where
  same_total : goes_on r.brought ≡ false → r.total ≡ total
  same_total e = omega (arith, d.none e, d.counted)

  total-below : total < 2 ^ 64 - 1 → r.total < 2 ^ 64 - 1
  total-below h = either (goes_on r.brought) (λ e. d.below e) (λ e. omega (arith, h, same_total e))

  -- the bytes that came stand after those held
  came : List ℕ
  came = drop held (take r.count x)

  came_after : take r.count x ≡ take held s ++ came
  unfolding came
  came_after =
      let h = d.behind in
      let e : take held (take r.count x) ≡ take held s = take-take held r.count x h ∙ d.kept in
      sym (take-append-drop held (take r.count x)) ∙ ap (λ (y : List ℕ). y ++ drop held (take r.count x)) e

  came_length : length x ≡ length s → held + length came ≡ r.count
  unfolding came
  came_length e =
      let l : length (take r.count x) ≡ r.count = length-take-le r.count x (omega (arith, d.within, e)) in
      omega (arith, length-drop held (take r.count x), l, d.behind)

  -- each read brings a byte or is the last one
  pub read_less : {going : Bool} (ok : Bool) {g : Bool} → total < 2 ^ 64 - 1 → going ≡ true → g ≡ goes_on r.brought → (2 ^ 64 - r.total) + cond (g && ok) 1 0 < (2 ^ 64 - total) + cond going 1 0
  read_less {going} ok {g} h k e =
      rw k (either (g && ok)
      (λ f. let m = sym e ∙ both_true g ok f in rw f (omega (arith, d.some m, d.counted, d.below m)))
      (λ f. rw f (omega (arith, d.counted, d.behind))))

module _
    {t : Trial} {b : Lent} {number held : ℕ} {s : Sent} {total : ℕ} {br : Brought} {going : Bool} {buf x : List ℕ} {r : Input}
    (k : Going t b number held s total br going buf)
    (d : Reads buf x held total r) where
  pub going_fits : number + r.count < 2 ^ 64
  going_fits = omega (arith, k.few, d.counted, d.behind, total-below d k.below)

  pub going_more :
      {t' : Trial} {b' : Lent} {buf' : List ℕ} {number' : ℕ} {s' : Sent} {held' : ℕ} {g o : Bool} →
      length x ≡ length buf →
      Whole t b x number s r.count t' b' buf' number' s' held' →
      length buf' ≡ length x →
      g ≡ goes_on r.brought →
      o ≡ is_none s'.failed →
      Going t' b' number' held' s' r.total r.brought (g && o) buf'
  going_more {s' = s'} {g = g} {o = o} l w l' e y =
      let n = came_length d l in
      let z : length x ≡ 65536 = l ∙ k.size in
      let input = k.by.input in
      record {
        by = record {
          input = input ++ came d;
          all = length-append input (came d) ∙ omega (arith, k.by.all, n, d.counted);
          reached = reached_more k.by.reached (came d) w (came_after d) z;
        };
        room = omega (arith, w.room, l');
        size = l' ∙ z;
        few = omega (arith, w.few, k.few, d.counted, d.behind);
        below = total-below d k.below;
        stops = λ f i. sym e ∙ both_false g o f (y ∙ ap not i);
        limit = λ f.
            let q : goes_on r.brought ≡ false = ap goes_on f ∙ limit-stops in
            omega (arith, d.limit f, k.size, same_total d q);
      }

pub going_ends : {r : Reading} {b : Lent} {buf : List ℕ} {going : Bool} → Going r.after.trial b r.after.number r.after.held r.after.sent r.total r.brought going buf → going ≡ false → ReadTo r b buf
going_ends k e =
    record { by = k.by; room = k.room; few = k.few; below = k.below; stops = k.stops e; limit = k.limit }

-- ---- the answer
absurd_why : {A : Type 0} (w : Why) → w ≡ W.Ended → at_end w ≡ false → A
unfolding at_end
absurd_why w e f = absurd (true≢false (sym (ap at_end e) ∙ f))

at-end : (w : Why) → at_end w ≡ true → w ≡ W.Ended
unfolding at_end
at-end W.Ended e = refl
at-end (W.ReadFailed c) e = absurd (true≢false (sym e))
at-end (W.WriteFailed c) e = absurd (true≢false (sym e))
at-end W.Limit e = absurd (true≢false (sym e))

-- two ways to end are not one
other : {A : Type 0} → ◌≡◌ {A = ℕ} 0 1 → A
other e = absurd (omega (arith, e))

-- where a write failed nothing else is said
why_ok : (br : Brought) (o : Option Error) (w : Why) → why_of br o ≡ w → ((c : Option Error) → w ≡ W.WriteFailed c → ⊥) → IsNone o
unfolding why_of
why_ok br None w e f = refl
why_ok br (Some c) w e f = absurd (f _ (sym e))

why_limit : (br : Brought) (o : Option Error) → why_of br o ≡ W.Limit → br ≡ B.Limit
unfolding why_of
why_limit br (Some c) e = other (cc e)
why_limit B.Limit None e = refl
why_limit B.Some None e = other (cc e)
why_limit B.Ended None e = other (cc e)
why_limit (B.Failed c) None e = other (cc e)

-- the last line's bytes sent or not, the input ended
why_again : (br : Brought) (o o' : Option Error) (w : Why) → why_of br o ≡ W.Ended → why_of br o' ≡ w → (w ≡ W.Ended → ⊥) → ((c : Option Error) → w ≡ W.WriteFailed c → ⊥) → ⊥
unfolding why_of
why_again br o (Some c) w e f g h = h _ (sym f)
why_again br (Some c) None w e f g h = other (cc e)
why_again br None None w e f g h = g (sym f ∙ e)

ended≢written : (w : Why) → w ≡ W.Ended → (c : Option Error) → w ≡ W.WriteFailed c → ⊥
ended≢written w e c f = other (cc (e, f))

-- reading stopped before the end
pub ran-short : {q : Reading} {b : Lent} {buf : List ℕ} {w : Why} → ReadTo q b buf → w ≡ why_of q.brought q.after.sent.failed → at_end w ≡ false → Ran (record { total = q.total; sent = q.after.sent.bytes; why = w })
ran-short {q} {w = w} k e f =
    record {
      input = k.by.input;
      all = k.by.all;
      ended = λ g. absurd_why w g f;
      failed = λ d g. sent-whole k.by.reached (why_ok q.brought q.after.sent.failed w (sym e) (λ c h. other (cc (g, h))));
      limit = λ g. (
        sent-whole k.by.reached (why_ok q.brought q.after.sent.failed w (sym e) (λ c h. other (cc (g, h)))),
        omega (arith, k.by.all, k.limit (why_limit q.brought q.after.sent.failed (sym e ∙ g))),
      );
      caused = ap is_caused e ∙ why_caused q.brought q.after.sent.failed;
    }

-- the input ended, and its last line was answered
pub ran-ended :
    {q : Reading} {b : Lent} {buf x : List ℕ} {w v : Why} {n : ℕ} {t' : Trial} {b' : Lent} {buf' : List ℕ} {number' : ℕ} {s' : Sent} {held' : ℕ} →
    ReadTo q b buf →
    w ≡ why_of q.brought q.after.sent.failed →
    at_end w ≡ true →
    Ends buf x q.after.held n →
    length x ≡ 65536 →
    Whole q.after.trial b x q.after.number q.after.sent n t' b' buf' number' s' held' →
    v ≡ why_of q.brought s'.failed →
    Ran (record { total = q.total; sent = s'.bytes; why = v })
ran-ended {q} {buf = buf} {w = w} {v = v} {s' = s'} k e f d l a y =
    let z : why_of q.brought q.after.sent.failed ≡ W.Ended = sym e ∙ at-end w f in
    let not_other = why_again q.brought q.after.sent.failed s'.failed v z (sym y) in
    record {
      input = k.by.input;
      all = k.by.all;
      ended = λ g. sent_all (take q.after.held buf) k.by.reached a d.line l (why_ok q.brought s'.failed v (sym y) (ended≢written v g));
      failed = λ c g. absurd (not_other (λ h. other (cc (g, h))) (λ d h. other (cc (g, h))));
      limit = λ g. absurd (not_other (λ h. other (cc (g, h))) (λ d h. other (cc (g, h))));
      caused = ap is_caused y ∙ why_caused q.brought s'.failed;
    }
