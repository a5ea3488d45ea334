-- Lines told one after the other. Assumes nothing.
use Prim.Native.Nat.{ℕ, ◌+◌, ◌-◌, ◌<◌, ◌≤◌}
use mathlib.Core.Path.{◌≡◌, refl, sym, ap, subst, ◌∙◌}
use mathlib.Core.List.{List, [], ◌∷◌, ◌++◌, append-nil, append_assoc}
use mathlib.Core.Logic.{◌⊎◌}
use native.Mathlib.Omega.{arith}
use lib.ListN.{length, take, drop}
use Rattle.slices.specs.Bytes.{put}
use Rattle.text.specs.Text.{place_of, cut}
use Rattle.text.proofs.Cuts.{Cut, cut-start, cut_more}
use Rattle.text.proofs.Filled.{Filled, filled_none, filled_more}
use Rattle.meter_log_told.specs.declared.Log.{Log}
use Rattle.meter_log_told.specs.declared.LogStep.{LogStep}
use Rattle.meter_log_told.specs.Told.{tell_whole}
use Rattle.meter_log_put.specs.Text.{told_bytes}
use Rattle.meter_log_lines.specs.Lines.{Run, advance, run_whole, Tells}

-- one line more at the end; and lines after lines
pub run_append : (w : Run) (ps qs : List (List ℕ)) → run_whole w (ps ++ qs) ≡ run_whole (run_whole w ps) qs
unfolding run_whole
run_append w [] qs = refl
run_append w (p ∷ ps) qs = run_append (advance w (tell_whole w.log p)) ps qs

run_one : (w : Run) (p : List ℕ) → run_whole w (p ∷ []) ≡ advance w (tell_whole w.log p)
unfolding run_whole
run_one w p = refl

pub run_more : (w : Run) (ps : List (List ℕ)) (p : List ℕ) → run_whole w (ps ++ (p ∷ [])) ≡ advance (run_whole w ps) (tell_whole (run_whole w ps).log p)
run_more w ps p = run_append w ps (p ∷ []) ∙ run_one (run_whole w ps) p

-- n lines before, nothing printed
abbrev pub from : Log → ℕ → Run
from g n = record { log = g; number = n; printed = [] }

-- the lines before `at` are told
pub record So (g₀ : Log) (n : ℕ) (text out₀ : List ℕ) (g : Log) (out : List ℕ) (count at filled : ℕ) : Type 0 where
  pub told : List (List ℕ)
  pub cut : Cut 10 text told at
  pub each : count ≤ at
  pub log : g ≡ (run_whole (from g₀ n) told).log
  pub number : n + count ≡ (run_whole (from g₀ n) told).number
  pub buffer : Filled out₀ out filled (run_whole (from g₀ n) told).printed
  pub some : at ≡ 0 → filled ≡ 0

pub so_none : (g : Log) (n : ℕ) (text out : List ℕ) → So g n text out g out 0 0 0
unfolding run_whole
so_none g n text out =
    record {
      told = [];
      cut = cut-start 10 text;
      each = omega arith;
      log = refl;
      number = omega arith;
      buffer = filled_none out;
      some = λ e. refl;
    }

module _ {g₀ : Log} {n : ℕ} {text out₀ : List ℕ} {g : Log} {out : List ℕ} {count at filled : ℕ} (w : So g₀ n text out₀ g out count at filled) where
  pub so_more :
      (e : ℕ) (s : LogStep) (out' : List ℕ) (filled' : ℕ) →
      e ≡ at + place_of 10 (drop at text) →
      (e ≡ length text → ⊥) →
      filled + 64 ≤ length out₀ →
      s ≡ tell_whole g (take (e - at) (drop at text)) →
      (filled' ≡ filled + length (told_bytes (n + count + 1) s.told))
      × (out' ≡ put out filled (told_bytes (n + count + 1) s.told))
      × (filled' ≤ filled + 64) →
      So g₀ n text out₀ s.log out' (count + 1) (e + 1) filled'
  so_more e s out' filled' q h room t b =
      let p = take (e - at) (drop at text) in
      let R = run_whole (from g₀ n) w.told in
      let k : LogStep = tell_whole R.log p in
      let j : s ≡ k = t ∙ ap (λ (x : Log). tell_whole x p) w.log in
      let m : run_whole (from g₀ n) (w.told ++ (p ∷ [])) ≡ advance R s = run_more (from g₀ n) w.told p ∙ ap (advance R) (sym j) in
      let f = filled_more w.buffer out' (told_bytes (n + count + 1) s.told) filled' b.1 b.0 (omega (arith, b.2, room)) in
      let i : n + count + 1 ≡ R.number + 1 = ap (λ (x : ℕ). x + 1) w.number in
      let f₁ = subst (λ (x : ℕ). Filled out₀ out' filled' (R.printed ++ told_bytes x s.told)) i f in
      record {
        told = w.told ++ (p ∷ []);
        cut = cut_more w.cut e q h;
        each = omega (arith, w.each);
        log = sym (ap (λ (x : Run). x.log) m);
        number = omega (arith, i, ap (λ (x : Run). x.number) m);
        buffer = rw m f₁;
        some = λ z. absurd (omega (arith, z));
      }

  pub so_ends :
      (cut 10 (drop at text) ≡ drop at text ∷ []) ⊎ (length out₀ < filled + 64) →
      Tells g₀ n text out₀ (record { log = g; count = count; used = at; filled = filled }) out
  so_ends e =
      record {
        told = w.told;
        pieces = w.cut.pieces;
        within = w.cut.within;
        each = w.each;
        run = rw (w.log, w.number, w.buffer.front);
        room = w.buffer.room;
        rest = w.buffer.rest;
        ends = e;
        some = w.some;
      }

-- a run with p printed before it
abbrev pub behind : List ℕ → Run → Run
behind p w = record { log = w.log; number = w.number; printed = p ++ w.printed }

pub run_behind : (p : List ℕ) (w : Run) (ps : List (List ℕ)) → run_whole (behind p w) ps ≡ behind p (run_whole w ps)
unfolding run_whole
run_behind p w [] = refl
run_behind p w (q ∷ ps) =
    let s = tell_whole w.log q in
    let a : advance (behind p w) s ≡ behind p (advance w s) = rw (append_assoc p w.printed (told_bytes (w.number + 1) s.told)) in
    ap (λ (x : Run). run_whole x ps) a ∙ run_behind p (advance w s) ps

-- lines told after lines told, each with what it printed
pub run_then :
    (g₀ g₁ g₂ : Log) (n₀ n₁ n₂ : ℕ) (p q : List ℕ) (ps qs : List (List ℕ)) →
    ◌≡◌ {A = Run} (record { log = g₁; number = n₁; printed = p }) (run_whole (from g₀ n₀) ps) →
    ◌≡◌ {A = Run} (record { log = g₂; number = n₂; printed = q }) (run_whole (from g₁ n₁) qs) →
    ◌≡◌ {A = Run} (record { log = g₂; number = n₂; printed = p ++ q }) (run_whole (from g₀ n₀) (ps ++ qs))
run_then g₀ g₁ g₂ n₀ n₁ n₂ p q ps qs a b =
    let c : behind p (from g₁ n₁) ≡ run_whole (from g₀ n₀) ps = rw (append-nil p) a in
    ap (behind p) b ∙ sym (run_behind p (from g₁ n₁) qs) ∙ ap (λ (x : Run). run_whole x qs) c ∙ sym (run_append (from g₀ n₀) ps qs)
