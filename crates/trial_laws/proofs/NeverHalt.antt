-- `halt` is never printed. Assumes nothing.
use Prim.Native.Nat.{ℕ}
use mathlib.Core.Path.{◌≡◌, refl, sym, ap, subst, ◌∙◌}
use mathlib.Core.Logic.{⊎_elim}
use mathlib.Core.List.{List, [], ◌∷◌, ◌++◌, append_assoc, Memᴰ}
use Rattle.replica.specs.Outcome as O
use Rattle.replica.specs.Outcome.{Told}
use Rattle.checks.proofs.Laws.{cond_cases}
use Rattle.client_invoke.specs.Invoke.{invoke_step}
use Rattle.client.specs.Receive.{receive_step}
use Rattle.server.specs.Server as Sv
use Rattle.server.specs.Server.{ServerTold, server_step}
use Rattle.progress.specs.HonestRuns as H
use Rattle.progress.specs.HonestRuns.{World, Line, Action, act, run_from, start, told_head, told_in, told_from, NoHalt}
use Rattle.progress.proofs.NoHalt.{no_halt}
use Rattle.trial_words.specs.Words.{Asked, invoke, deliver, other}
use Rattle.trial_said.specs.Word.{Word, placed, answer, aside, confirm, empty, nay, halt, bad, full}
use Rattle.trial_core.specs.Trial.{trial_keys, is_success, is_client, told_word, served_word}
use Rattle.trial_laws.specs.TrialRuns.{some_full, head_word, invoked_word, invoke_word, deliver_word, line_word, line_van, offers, offered, after_line, trial_words, TrialHonest, NeverHalt}
use Rattle.trial_ways.proofs.Reached.{Reached, reached-start, reached_run}
use Rattle.trial_laws.proofs.Trials.{reached-line, trial_honest}

-- a word that is no halt
abbrev Fine : Word → Type 0
Fine (placed p) = Unit {0}
Fine (answer p a) = Unit {0}
Fine (aside p) = Unit {0}
Fine (confirm p s) = Unit {0}
Fine empty = Unit {0}
Fine (nay n) = Unit {0}
Fine (halt n) = ⊥
Fine bad = Unit {0}
Fine full = Unit {0}

-- ---- no call of a run halts
told_append : (w : World) (xs ys : List Action) → told_from w (xs ++ ys) ≡ told_from w xs ++ told_from (run_from w xs) ys
unfolding told_from run_from
told_append w [] ys = refl
told_append w (x ∷ xs) ys =
    ap (λ (l : List Told). told_in w x ++ l) (told_append (act w x) xs ys) ∙ sym (append_assoc (told_in w x) (told_from (act w x) xs) (told_from (run_from (act w x) xs) ys))

member_right : (x : Told) (xs ys : List Told) → Memᴰ x ys → Memᴰ x (xs ++ ys)
member_right x [] ys m = m
member_right x (y ∷ xs) ys m = mathlib.Core.List.Memᴰ.tail (member_right x xs ys m)

-- t is not a halt
abbrev Calm : Told → Type 0
Calm t = (k : ℕ) → t ≡ O.halted k → ⊥

calm : (w : World) → Reached w → (a : Action) (t : Told) → told_in w a ≡ t ∷ [] → Calm t
unfolding told_from NoHalt
calm w R a t e k q =
    let x : Memᴰ (O.halted k) (told_from w (a ∷ [])) = subst (Memᴰ (O.halted k)) (sym (ap (λ (l : List Told). l ++ []) e)) (mathlib.Core.List.Memᴰ.head (sym q)) in
    let y = subst (λ (v : World). Memᴰ (O.halted k) (told_from v (a ∷ []))) (sym R.is) x in
    no_halt trial_keys (R.actions ++ (a ∷ [])) k
    (subst (Memᴰ (O.halted k)) (sym (told_append (start trial_keys) R.actions (a ∷ [])))
    (member_right (O.halted k) (told_from (start trial_keys) R.actions) _ y))

-- ---- words
told_fine : (t : Told) → Calm t → Fine (told_word t)
told_fine O.opened c = tt
told_fine (O.invoked n) c = tt
told_fine (O.responded seq x) c = tt
told_fine (O.aborted seq) c = tt
told_fine (O.confirmed seq status) c = tt
told_fine (O.refused n) c = tt
told_fine (O.halted n) c = c n refl

served_fine : (t : ServerTold) → Fine (served_word t)
served_fine (Sv.placed n) = tt
served_fine (Sv.broadcast n) = tt
served_fine (Sv.refused n) = tt

head_fine : (w : World) (n : ℕ) (l : Line) → Fine (head_word w n l)
unfolding head_word
head_fine w n [] = tt
head_fine w n (m ∷ l) = served_fine (server_step w.server n m 1315).says

invoked_fine : (w : World) (n : ℕ) (t : Told) → Calm t → Fine (invoked_word w n t)
unfolding invoked_word
invoked_fine w n t c = cond_cases Fine (is_success t) (head_word w n (w.up n)) (told_word t) (λ e. head_fine w n (w.up n)) (λ e. told_fine t c)

module _ (w : World) (R : Reached w) where
  deliver_fine : (n : ℕ) (l : Line) → w.down n ≡ l → Fine (deliver_word (told_head w n 80 l))
  unfolding deliver_word told_in told_head
  deliver_fine n [] e = tt
  deliver_fine n (m ∷ d) e =
      let t = (receive_step (w.replica n) m 80).after.says in
      told_fine t (calm w R (H.deliver n 80) t (ap (told_head w n 80) e))

  invoke_fine : (n kind cell amount : ℕ) → Fine (invoke_word w n kind cell amount)
  unfolding invoke_word told_in
  invoke_fine n kind cell amount =
      let t = (invoke_step (w.replica n) kind cell amount 0 43).after.says in
      let a = H.invoke n kind cell amount 0 43 in
      cond_cases Fine (some_full w 8) full (invoked_word (act w a) n t) (λ e. tt) (λ e. invoked_fine (act w a) n t (calm w R a t refl))

  line_fine : (a : Asked) → Fine (line_word w a)
  unfolding line_word told_in
  line_fine other = tt
  line_fine (deliver n) = cond_cases Fine (is_client n) (deliver_word (told_in w (H.deliver n 80))) bad (λ e. deliver_fine n (w.down n) refl) (λ e. tt)
  line_fine (invoke n kind cell amount) = cond_cases Fine (is_client n) (invoke_word w n kind cell amount) bad (λ e. invoke_fine n kind cell amount) (λ e. tt)

-- ---- whole trials
words_fine : (lines : List Asked) (w : World) → Reached w → (n k : ℕ) → Memᴰ (n, halt k) (trial_words w lines) → ⊥
unfolding trial_words offered
words_fine [] w R n k m = mathlib.Core.List.Memᴰ.not-nil m
words_fine (a ∷ more) w R n k m =
    ⊎_elim
    (λ (e : (n, halt k) ≡ (line_van a, line_word (offered w) a)).
    subst Fine (sym (ap (λ (p : ℕ × Word). p.1) e)) (line_fine (offered w) (reached_run w (offers 8) R) a))
    (λ (x : Memᴰ (n, halt k) (trial_words (after_line w a) more)). words_fine more (after_line w a) (reached-line w a R) n k x)
    (mathlib.Core.List.Memᴰ.cases_cons m)

pub never_halt : NeverHalt
unfolding NeverHalt TrialHonest
never_halt lines n k m = words_fine lines (start trial_keys) reached-start n k (subst (Memᴰ (n, halt k)) (trial_honest lines) m)
