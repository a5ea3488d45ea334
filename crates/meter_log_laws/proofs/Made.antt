-- What an entry made from the log is: kind 5, allowed, with the numbers that stand under the three names. Assumes nothing.
use Prim.Native.Nat.{ℕ, zero, suc, ◌-◌, ◌%◌, ◌≤◌}
use mathlib.Core.Path.{◌≡◌, refl, sym, ap}
use mathlib.Core.List.{List, [], ◌∷◌}
use mathlib.Core.Bool.{true, false, ◌&&◌}
use native.Mathlib.Nat.{mod-eq_of_lt}
use native.Mathlib.Omega.{arith}
use lib.ListN.{length}
use lib.Dec.{eqb, leb}
use lib.IntN.{ℤ, pos, negsuc, sub_ℕ}
use lib.Signed.{le_z}
use borrow.Author.Tests.{eqb-true, leb-true, le-leb, lt-ltb}
use Rattle.std.specs.Prelude.{Some, None, Ok, Err}
use Rattle.slices.specs.Bytes.{all}
use Rattle.slices.proofs.Laws.{and_yes}
use Rattle.text.specs.Text.{is_digit, non_empty, horner, number_of}
use Rattle.text.proofs.Laws.{either}
use Rattle.operation.specs.declared.Operation.{Operation}
use Rattle.operation.specs.Operation.{signed, temp_ok, last_byte_ok, allowed}
use Rattle.operation.proofs.Signed.{signed_low, signed_high}
use Rattle.log_columns.specs.declared.Columns.{Columns}
use Rattle.meter_log.specs.declared.Refusal.TheVariants as N
use Rattle.log_number.specs.Number.{number, warm, cold, temperature}
use Rattle.log_entry.specs.Entry.{in_ranges, reported}
use Rattle.log_values.specs.Values.{under}
use Rattle.meter_log.specs.Reading.{Header, reading_of, line_ok, read_columns, read_line}

-- ---- numbers
digit_most : (b : ℕ) (s : List ℕ) → all is_digit (b ∷ s) ≡ true → (b - 48 ≤ 9) × (all is_digit s ≡ true)
unfolding all
digit_most b s d =
    let h = and_yes (is_digit b) (all is_digit s) d in
    let g : b ≤ 57 = leb-true b 57 (and_yes (leb 48 b) (leb b 57) h.0).1 in
    (omega arith, h.1)

digits-most : (s : List ℕ) → length s ≤ 3 → all is_digit s ≡ true → horner 0 s ≤ 999
unfolding horner
digits-most [] h d = omega arith
digits-most (x ∷ []) h d = omega (arith, (digit_most x [] d).0)
digits-most (x ∷ y ∷ []) h d =
    let p = digit_most x (y ∷ []) d in
    omega (arith, p.0, (digit_most y [] p.1).0)
digits-most (x ∷ y ∷ z ∷ []) h d =
    let p = digit_most x (y ∷ z ∷ []) d in
    let q = digit_most y (z ∷ []) p.1 in
    omega (arith, p.0, q.0, (digit_most z [] q.1).0)
digits-most (x ∷ y ∷ z ∷ w ∷ s) h d = absurd (omega arith)

-- "A number has one to three digits": it is what they spell
pub number_digits : (s : List ℕ) → non_empty s ≡ true → length s ≤ 3 → all is_digit s ≡ true → number s ≡ horner 0 s
unfolding number number_of
number_digits s n h d = rw (le-leb (length s) 3 h, n, d) (omega (arith, digits-most s h d))

-- what begins with a minus sign is no number
number_minus : (s : List ℕ) → number (45 ∷ s) ≡ 1000
unfolding number number_of all
number_minus s = either (leb (length (45 ∷ s)) 3) (λ e. rw e) (λ e. rw e)

-- ---- temperatures
warm_in : (n : ℕ) → n ≤ 85 → warm n ≡ n
unfolding warm
warm_in n h = rw (le-leb n 85 h)

warm_out : (n : ℕ) → warm n ≤ 255 → n ≤ 85
unfolding warm
warm_out n h = either (leb n 85) (λ e. leb-true n 85 e) (λ e. absurd (let z : 1000 ≤ 255 = rw e at h in omega arith))

cold_out : (n : ℕ) → cold n ≤ 255 → n ≤ 40
unfolding cold
cold_out n h = either (leb n 40) (λ e. leb-true n 40 e) (λ e. absurd (let z : 1000 ≤ 255 = rw e at h in omega arith))

cold-zero : cold 0 ≡ 0
unfolding cold
cold-zero = refl

cold_in : (n : ℕ) → suc n ≤ 40 → cold (suc n) ≡ 255 - n
unfolding cold
cold_in n h =
    let r : (256 - suc n) % 256 ≡ 256 - suc n = mod-eq_of_lt (omega arith) in
    let e : 256 - suc n ≡ 255 - n = omega arith in
    rw (le-leb (suc n) 40 h, r, e)

minus_suc : (n : ℕ) → sub_ℕ 0 (suc n) ≡ negsuc n
minus_suc n = let e : suc n - 1 ≡ n = omega arith in rw (lt-ltb 0 (suc n) (omega arith)) (ap negsuc e)

cold-signed : (n : ℕ) → n ≤ 40 → signed (cold n) ≡ sub_ℕ 0 n
cold-signed zero h = rw cold-zero (signed_low 0 (omega arith))
cold-signed (suc n) h =
    let e : 255 - (255 - n) ≡ n = omega arith in
    rw (cold_in n h, signed_high (255 - n) (omega arith) (omega arith), e) (sym (minus_suc n))

number_none : number [] ≡ 1000
unfolding number number_of
number_none = refl

number_first : (b : ℕ) (s : List ℕ) → number (b ∷ s) ≤ 85 → eqb b 45 ≡ false
number_first b s h =
    either (eqb b 45)
    (λ e. absurd (let g : b ≡ 45 = eqb-true b 45 e in let z : number (45 ∷ s) ≤ 85 = rw g at h in omega (arith, number_minus s)))
    (λ e. e)

-- a number from 0 to 85 is its own byte
pub temp-plain : (s : List ℕ) → number s ≤ 85 → temperature s ≡ number s
unfolding temperature
temp-plain [] h = absurd (omega (arith, number_none))
temp-plain (b ∷ s) h = rw (number_first b s h) (warm_in (number (b ∷ s)) h)

-- and the byte stands for it
pub temp-warm : (s : List ℕ) → number s ≤ 85 → signed (temperature s) ≡ pos (number s)
temp-warm s h = rw (temp-plain s h) (signed_low (number s) (omega arith))

-- after a minus sign, a number from 0 to 40 gives the byte that stands for 0 less it
pub temp-cold : (s : List ℕ) → number s ≤ 40 → signed (temperature (45 ∷ s)) ≡ sub_ℕ 0 (number s)
unfolding temperature
temp-cold s h = cold-signed (number s) h

-- z is the number under `temp`, where that holds s: with a minus sign and without
pub data Degrees (s : List ℕ) (z : ℤ) : Type 0 where
  plus : number s ≤ 85 → z ≡ pos (number s) → Degrees s z
  minus : (d : List ℕ) → s ≡ 45 ∷ d → number d ≤ 40 → z ≡ sub_ℕ 0 (number d) → Degrees s z

temp_first : (b : ℕ) (s : List ℕ) → eqb b 45 ≡ false → temperature (b ∷ s) ≡ warm (number (b ∷ s))
unfolding temperature
temp_first b s e = rw e

temp_minus : (s : List ℕ) → temperature (45 ∷ s) ≡ cold (number s)
unfolding temperature
temp_minus s = refl

temp_none : temperature [] ≡ 1000
unfolding temperature
temp_none = refl

degrees : (s : List ℕ) → temperature s ≤ 255 → Degrees s (signed (temperature s))
degrees [] h = absurd (omega (arith, temp_none))
degrees (b ∷ s) h =
    either (eqb b 45)
    (λ e.
    let g : b ≡ 45 = eqb-true b 45 e in
    let z : temperature (45 ∷ s) ≤ 255 = rw g at h in
    let n : number s ≤ 40 = cold_out (number s) (rw (temp_minus s) at z) in
    minus s (rw g) n (rw g (temp-cold s n)))
    (λ e. let n : number (b ∷ s) ≤ 85 = warm_out (number (b ∷ s)) (rw (temp_first b s e) at h) in plus n (temp-warm (b ∷ s) n))

minus_range : (n : ℕ) → n ≤ 40 → (le_z (negsuc 39) (sub_ℕ 0 n) && le_z (sub_ℕ 0 n) (pos 85)) ≡ true
minus_range zero h = refl
minus_range (suc n) h = rw (minus_suc n, le-leb n 39 (omega arith))

degrees_ok : {s : List ℕ} (b : ℕ) → Degrees s (signed b) → temp_ok b ≡ true
unfolding temp_ok
degrees_ok {s} b (plus n e) = rw (e, le-leb (number s) 85 n)
degrees_ok b (minus d g n e) = rw e (minus_range (number d) n)

-- ---- entries
record Reads (x y z : ℕ) (e : Operation) : Type 0 where
  pub low : x ≤ 15
  pub middle : y ≤ 255
  pub high : z ≤ 255
  pub whole : e ≡ reported x y z

-- what the test of the ranges says
three_yes : (a b c : ℕ) → in_ranges a b c ≡ true → (a ≤ 15) × (b ≤ 255) × (c ≤ 255)
three_yes a b c e =
    let f = and_yes (leb a 15 && leb b 255) (leb c 255) e in
    let g = and_yes (leb a 15) (leb b 255) f.0 in
    (leb-true _ _ g.0, leb-true _ _ g.1, leb-true _ _ f.1)

reads : (x y z : ℕ) (e : Operation) → reading_of x y z ≡ Ok e → Reads x y z e
unfolding reading_of
reads x y z e q =
    either (in_ranges x y z)
    (λ t.
    let b = three_yes x y z t in
    let g : Ok (reported x y z) ≡ Ok e = rw t at q in
    record { low = b.0; middle = b.1; high = b.2; whole = cc g })
    (λ t. absurd (let g : Err N.Number ≡ Ok e = rw t at q in let w : ◌≡◌ {A = ℕ} 0 1 = cc in omega arith))

allowed_in : (x y z : ℕ) → x ≤ 15 → temp_ok z ≡ true → allowed 5 x y z ≡ true
unfolding allowed last_byte_ok
allowed_in x y z h t = rw (le-leb x 15 h, t)

columns_made :
    (c : Columns) (l : List ℕ) (e : Operation) →
    read_columns c l ≡ Ok e →
    Reads (number (under l c.cell)) (number (under l c.flow)) (temperature (under l c.temp)) e
unfolding read_columns
columns_made c l e q =
    either (line_ok c l) (λ t. reads _ _ _ e (rw t at q))
    (λ t. absurd (let g : Err N.Fields ≡ Ok e = rw t at q in let w : ◌≡◌ {A = ℕ} 0 1 = cc in omega arith))

-- an entry of kind 5, its count not given, that making allows
pub record Entry (e : Operation) : Type 0 where
  pub no_count : e.count ≡ 0
  pub five : e.kind ≡ 5
  pub a_byte : e.amount ≤ 255
  pub passes : allowed e.kind e.cell e.amount e.last ≡ true

-- an entry with the cell, flow and temperature that a line has under these columns
pub record Found (c : Columns) (l : List ℕ) (e : Operation) : Type 0 where
  pub the_cell : e.cell ≡ number (under l c.cell)
  pub the_flow : e.amount ≡ number (under l c.flow)
  pub the_temp : Degrees (under l c.temp) (signed e.last)

module _ (c : Columns) (l : List ℕ) (e : Operation) (q : read_columns c l ≡ Ok e) where
  columns_entry : Entry e
  columns_entry =
      let r = columns_made c l e q in
      let t : temp_ok (temperature (under l c.temp)) ≡ true = degrees_ok _ (degrees (under l c.temp) r.high) in
      rw r.whole (record { no_count = refl; five = refl; a_byte = r.middle; passes = allowed_in _ _ _ r.low t })

-- "Each later line becomes one kind 5 entry, its count left to making": one that making allows
pub line-entry : (h : Header) (l : List ℕ) (e : Operation) → read_line h l ≡ Ok e → Entry e
unfolding read_line
line-entry None l e q = absurd (let w : ◌≡◌ {A = ℕ} 0 1 = cc in omega arith)
line-entry (Some c) l e q = columns_entry c l e q

-- "with the cell, flow and temperature found under those names"
pub line_found : (c : Columns) (l : List ℕ) (e : Operation) → read_line (Some c) l ≡ Ok e → Found c l e
unfolding read_line
line_found c l e q =
    let r = columns_made c l e q in
    rw r.whole (record { the_cell = refl; the_flow = refl; the_temp = degrees (under l c.temp) r.high })
