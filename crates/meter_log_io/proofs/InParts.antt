-- The input in parts: what was told and sent of all that came, however it was cut into reads. Assumes nothing.
use Rattle.std.specs.declared.option.Option.{Option}
use Rattle.std.specs.Option.{unwrap_or}
use Rattle.std.specs.Prelude.{Some, IsNone, is_none}
use Prim.Native.Nat.{ℕ, ◌+◌, ◌-◌, ◌<◌, ◌≤◌, ◌^◌}
use mathlib.Core.Path.{◌≡◌, refl, sym, ap, ◌∙◌}
use mathlib.Core.List.{List, [], ◌∷◌, ◌++◌, append_assoc}
use mathlib.Core.Bool.{Bool, true, false, not, ◌&&◌, true≢false}
use native.Mathlib.Omega.{arith}
use lib.ListN.{length, take, drop, length-append, length-drop}
use lib.Seq.{length-take-le}
use Rattle.slices.proofs.Laws.{and_yes}
use Rattle.text.specs.Text.{cut}
use Rattle.text.proofs.Laws.{either}
use Rattle.text.proofs.Joins.{last_piece, last_goes_on}
use Rattle.input.specs.declared.Input.{Input}
use Rattle.input.specs.Reads.{goes_on, Reads}
use Rattle.meter_log_lines.specs.Lines.{run_whole}
use Rattle.meter_log_parts.specs.declared.State.{State}
use Rattle.meter_log_parts.specs.Whole.{between, held_of, Stands, all, over, First, Past, AllTold, Came}
use Rattle.meter_log_io.specs.Ran.{Reached, Stopped}
use Rattle.meter_log_io.proofs.Sizes.{past-few}
use Rattle.meter_log_parts.proofs.Laws.{sends_none, runs, sent_both}

-- more bytes came, by the contract of `more`: all is told of them together
module _ {w₀ : State} {t : List ℕ} {w : State} {p : List ℕ} (i : Past w₀ t p w) {o : Bool} {s x : List ℕ} {w' : State} {k : Option ℕ} {buf' : List ℕ} (c : Came w o s x w' k buf') (h : Stands o s p) where
  abbrev part : AllTold w (p ++ x) w' k buf'
  part = c.whole p (last_piece 10 t i.told p i.pieces) h

  pub past_more : Past w₀ (t ++ x) part.rest w'
  past_more =
      let y = part.past in
      record {
        told = i.told ++ y.told;
        printed = i.printed ++ y.printed;
        pieces =
            last_goes_on 10 t i.told p i.pieces x
            ∙ ap (λ (z : List (List ℕ)). i.told ++ z) y.pieces
            ∙ sym (append_assoc i.told y.told (part.rest ∷ []));
        run = runs w₀ w w' i.printed y.printed i.told y.told i.run y.run;
        sent = sent_both i.printed y.printed i.sent y.sent;
      }

-- before the first read nothing came
past_none : (w : State) → First w → Past w [] [] w
unfolding cut run_whole
past_none w f = record { told = []; printed = []; pieces = refl; run = refl; sent = sends_none w.sent (omega (arith, f.sent)) }

pub reached_none : (w : State) (buf : List ℕ) → First w → Reached w (Some 0) buf 0
reached_none w buf f =
    record { input = []; counted = refl; left = []; start = w; first = f; past = past_none w f; stands = all {p = []} refl (omega arith) }

-- and after one more, the bytes from `held` to n of what it left in the buffer came
pub reached_more :
    (buf₁ : List ℕ) (n : ℕ) {w : State} {k : Option ℕ} {buf : List ℕ} {total total' : ℕ} {w' : State} {k' : Option ℕ} {buf' : List ℕ} →
    Reached w k buf total →
    take (held_of k) buf₁ ≡ take (held_of k) buf →
    held_of k ≤ n →
    n ≤ length buf₁ →
    total' + held_of k ≡ total + n →
    Came w (is_none k) (take (held_of k) buf₁) (between buf₁ (held_of k) n) w' k' buf' →
    Reached w' k' buf' total'
reached_more buf₁ n {w} {k} {buf} {total} {total'} r e l m g c =
    let x = between buf₁ (held_of k) n in
    let h : Stands (is_none k) (take (held_of k) buf₁) r.left = rw e r.stands in
    let a = part r.past c h in
    let f : length x ≡ n - held_of k = length-take-le (n - held_of k) (drop (held_of k) buf₁) (omega (arith, length-drop (held_of k) buf₁)) in
    record {
      input = r.input ++ x;
      counted = omega (arith, length-append r.input x, f, r.counted, g, l);
      left = a.rest;
      start = r.start;
      first = r.first;
      past = past_more r.past c h;
      stands = a.kept;
    }

-- lines told and bytes held are no more than bytes read
stands-few : {o : Bool} {s p : List ℕ} → Stands o s p → length s ≤ length p
stands-few (all e h) = omega (arith, ap length e)
stands-few (over e h) = omega (arith, ap length e)

pub reached-few : {w : State} {k : Option ℕ} {buf : List ℕ} {total : ℕ} → Reached w k buf total → held_of k < length buf → w.number + held_of k ≤ total
reached-few {w} {k} {buf} r h =
    omega
    (arith, past-few r.past, r.counted, r.first.number, stands-few r.stands, length-take-le (held_of k) buf (omega (arith, h)))

-- a read behind the bytes held
pub read_held : {buf buf₁ : List ℕ} {n total : ℕ} {g : Input} (k : Option ℕ) → n ≡ unwrap_or k 0 → Reads buf buf₁ n total g → Reads buf buf₁ (held_of k) total g
read_held k e r = rw e at r

-- ---- a turn of the loop, by the contracts of what it calls
-- it goes on only after a read that brought bytes and writes that succeeded
pub on : (a o r : Bool) → r ≡ (a && o) → not r ≡ false → (a ≡ true) × (o ≡ true)
on a o true e h = and_yes a o (sym e)
on a o false e h = absurd (true≢false h)

and_no : (a o : Bool) → o ≡ true → (a && o) ≡ false → a ≡ false
and_no false o h e = refl
and_no true o h e = absurd (true≢false (sym h ∙ e))

off : (a o r : Bool) → r ≡ (a && o) → not r ≡ true → o ≡ true → a ≡ false
off a o true e h g = absurd (true≢false (sym h))
off a o false e h g = and_no a o g (sym e)

pub reached_next :
    {w : State} {k : Option ℕ} {buf buf₁ : List ℕ} {total : ℕ} {g : Input} {w' : State} {k' : Option ℕ} {buf' : List ℕ} →
    Reached w k buf total →
    length buf₁ ≡ length buf →
    Reads buf buf₁ (held_of k) total g →
    Came w (is_none k) (take (held_of k) buf₁) (between buf₁ (held_of k) g.count) w' k' buf' →
    Reached w' k' buf' g.total
reached_next {buf₁ = buf₁} {g = g} r l i c = reached_more buf₁ g.count r i.kept i.behind (omega (arith, i.within, l)) i.counted c

pub stopped :
    {w : State} {k : Option ℕ} {buf buf₁ : List ℕ} {total : ℕ} {g : Input} {w' : State} {k' : Option ℕ} {buf' : List ℕ} {r : Bool} →
    Reached w k buf total →
    total + 1 < 2 ^ 64 →
    length buf ≡ 65536 →
    length buf₁ ≡ length buf →
    Reads buf buf₁ (held_of k) total g →
    Came w (is_none k) (take (held_of k) buf₁) (between buf₁ (held_of k) g.count) w' k' buf' →
    r ≡ (goes_on g.brought && is_none w'.sent.failed) →
    not r ≡ true →
    Stopped (record { state = w'; kept = k'; total = g.total; brought = g.brought }) buf'
stopped {g = g} {w' = w'} q m z l i c e h =
    record {
      reached = reached_next q l i c;
      room = c.room;
      below = either (goes_on g.brought) (λ o. omega (arith, i.below o)) (λ o. omega (arith, i.none o, i.counted, m));
      last = λ f. off (goes_on g.brought) (is_none w'.sent.failed) _ e h (ap not f);
      limit = λ f. omega (arith, i.limit f, z, i.counted, i.behind);
    }
