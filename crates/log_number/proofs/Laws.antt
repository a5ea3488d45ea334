-- Numbers and temperatures by the first byte and the length. Assumes nothing.
use Prim.Native.Nat.{ℕ, ◌-◌, ◌%◌, ◌<◌, ◌≤◌}
use mathlib.Core.Path.{◌≡◌, refl}
use mathlib.Core.List.{List, [], ◌∷◌}
use native.Mathlib.Omega.{arith}
use lib.ListN.{length}
use borrow.Author.Tests.{ne_eqb, le-leb, lt-leb}
use Rattle.std.specs.Prelude.{Some, None}
use Rattle.text.specs.Text.{number_of, within, number_within}
use Rattle.text.proofs.Laws.{within-cap, within_most, within_more, within_is, within_not}
use Rattle.log_number.specs.Number.{number, warm, cold, temperature}

pub number_short : (s : List ℕ) → length s ≤ 3 → number_of 1000 s ≡ number s
unfolding number
number_short s h = rw (le-leb (length s) 3 h)

pub number-long : (s : List ℕ) → 3 < length s → 1000 ≡ number s
unfolding number
number-long s h = rw (lt-leb (length s) 3 h)

-- an empty field holds none
pub number-empty : number [] ≡ 1000
unfolding number number_of
number-empty = refl

pub temp-empty : temperature [] ≡ 1000
unfolding temperature
temp-empty = refl

pub temp_none : (s : List ℕ) → length s ≡ 0 → 1000 ≡ temperature s
unfolding temperature
temp_none [] h = refl
temp_none (b ∷ s) h = absurd (omega (arith, h))

-- the same of values that may be none
pub short_within : (s : List ℕ) → length s ≤ 3 → number_within 999 s ≡ within 999 (number s)
unfolding number
short_within s h = rw (le-leb (length s) 3 h) (within-cap 1000 999 s (omega arith))

pub long_within : (s : List ℕ) → 3 < length s → within 999 (number s) ≡ None
unfolding number
long_within s h = rw (lt-leb (length s) 3 h) (within_more 999 1000 (omega arith))

pub number_empty_none : within 999 (number []) ≡ None
unfolding number number_of
number_empty_none = within_more 999 1000 (omega arith)

pub temp_empty_none : within 255 (temperature []) ≡ None
unfolding temperature
temp_empty_none = within_more 255 1000 (omega arith)

pub warm_in : (n : ℕ) → n ≤ 85 → within 255 (warm n) ≡ Some n
unfolding warm
warm_in n h = rw (le-leb n 85 h) (within_most 255 n (omega (arith, h)))

pub warm_out : (n : ℕ) → 85 < n → within 255 (warm n) ≡ None
unfolding warm
warm_out n h = rw (lt-leb n 85 h) (within_more 255 1000 (omega arith))

pub cold_in : (n : ℕ) → n ≤ 40 → within 255 (cold n) ≡ Some ((256 - n) % 256)
unfolding cold
cold_in n h = rw (le-leb n 40 h) (within_most 255 ((256 - n) % 256) (omega arith))

pub cold_out : (n : ℕ) → 40 < n → within 255 (cold n) ≡ None
unfolding cold
cold_out n h = rw (lt-leb n 40 h) (within_more 255 1000 (omega arith))

none_case : (s : List ℕ) → length s ≡ 0 → temperature s ≡ warm (number s)
unfolding temperature number number_of warm
none_case [] h = refl
none_case (b ∷ s) h = absurd (omega (arith, h))

-- a first byte that is a minus sign, another, none
module _ (s : List ℕ) where
  pub temp_minus : (b : ℕ) (d : List ℕ) → s ≡ b ∷ d → b ≡ 45 → temperature s ≡ cold (number d)
  unfolding temperature
  temp_minus b d h e = rw (h, e)

  pub temp-plain : (b : ℕ) (d : List ℕ) → s ≡ b ∷ d → (b ≡ 45 → ⊥) → temperature s ≡ warm (number s)
  unfolding temperature
  temp-plain b d h e = let g = ne_eqb b 45 e in rw (h, g)

  pub temp_empty_warm : length s ≡ 0 → temperature s ≡ warm (number s)
  temp_empty_warm h = none_case s h

-- no number after the minus sign
pub minus_none : (s : List ℕ) (b : ℕ) (d : List ℕ) → s ≡ b ∷ d → b ≡ 45 → within 999 (number d) ≡ None → within 255 (temperature s) ≡ None
minus_none s b d h e n = let g = within_not 999 (number d) n in rw (temp_minus s b d h e) (cold_out (number d) (omega (arith, g)))

-- what the number of digits says of a number
pub ruleset number_steps = (short_within, long_within)

-- what a number is as a temperature
pub ruleset warm_steps = (warm_in, warm_out, cold_in, cold_out)

-- and what a field is
pub ruleset temperature_steps = (within_is, within_not, minus_none, temp_minus, temp-plain, temp_empty_warm, warm_out, cold_out)
