-- A line's step and its bytes, as one answer. Assumes nothing.
use Prim.Native.Nat.{ℕ, ◌+◌, ◌≤◌}
use mathlib.Core.Path.{◌≡◌, ap, ◌∙◌}
use mathlib.Core.List.{List}
use lib.ListN.{length}
use Rattle.slices.specs.Bytes.{put}
use Rattle.trial_words.specs.Words.{Asked}
use Rattle.trial_said.specs.Word.{Word}
use Rattle.trial_print.specs.Line.{line_bytes}
use Rattle.trial_core.specs.declared.Trial.{Trial}
use Rattle.trial_core.specs.Trial.{Lent, LineStep, line_step}
use Rattle.trial_answer.specs.declared.Line.{Line}
use Rattle.trial_answer.specs.Answer.{LineAnswered}

pub said_of :
    (t : Trial) (n : ℕ) (b : Lent) (a : Asked) (out : List ℕ) (at : ℕ) (r : Line) (b' : Lent) (out' : List ℕ) (v : ℕ) (x : Word) →
    ◌≡◌ {A = LineStep} (record { trial = r.trial; lent = b'; van = v; word = x }) (line_step t b a) →
    r.filled ≡ at + length (line_bytes n v x) →
    out' ≡ put out at (line_bytes n v x) →
    r.filled ≤ at + 64 →
    LineAnswered t n b a out at r b' out'
said_of t n b a out at r b' out' v x e f g h =
    let l : line_bytes n v x ≡ line_bytes n (line_step t b a).van (line_step t b a).word = ap (λ (s : LineStep). line_bytes n s.van s.word) e in
    record {
      trial = ap (λ (s : LineStep). s.trial) e;
      lent = ap (λ (s : LineStep). s.lent) e;
      place = f ∙ ap (λ (s : List ℕ). at + length s) l;
      bytes = g ∙ ap (λ (s : List ℕ). put out at s) l;
      most = h;
    }
