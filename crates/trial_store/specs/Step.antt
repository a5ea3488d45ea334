-- Internal: what the code of a line hands back, as the definitions have it.
use Rattle.std.specs.Prelude.{List}
use Rattle.trial_said.specs.Word.{word_of}
use Rattle.replica.specs.declared.Replica.{Replica}
use Rattle.server.specs.declared.Server.{Server}
use Rattle.trial_core.specs.declared.Lines.{Lines}
use Rattle.trial_core.specs.declared.Trial.{Trial}
use Rattle.trial_core.specs.Trial.{Lent, LineStep}
use Rattle.trial_store.specs.declared.Stepped.{Stepped}

abbrev pub trial_with : List Replica → Server → Lines → Trial
trial_with replicas server lines = record { replicas = replicas; server = server; lines = lines }

-- a result and the bytes lent after it
abbrev pub line_of : Stepped → Lent → LineStep
line_of q b = record { trial = q.trial; lent = b; van = q.van; word = word_of q.said }
