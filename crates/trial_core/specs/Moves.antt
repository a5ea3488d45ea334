-- Internal: what the code of a move hands back, as the definitions have it.
use Rattle.std.specs.Prelude.{ℕ, List}
use Rattle.trial_said.specs.Word.{word_of}
use Rattle.trial_core.specs.Trial.{Lent, Move}
use Rattle.trial_core.specs.declared.Moved.{Moved}

abbrev pub lent_of : List ℕ → List ℕ → List ℕ → Lent
lent_of log replies invokes = record { log = log; replies = replies; invokes = invokes }

-- a move and the bytes lent after it
abbrev pub move_of : Moved → Lent → Move
move_of q b =
    record {
      replica = q.replica;
      server = q.server;
      lines = q.lines;
      word = word_of q.said;
      log = b.log;
      replies = b.replies;
      invokes = b.invokes;
    }
