-- The trial of document 01, "Cases", as a run with a server that follows the rules (specs/HonestRuns.antt of progress): what each line
-- of input does is a list of that run's actions. Quotes are from "Cases". Van: client; relay: server.
use Rattle.std.specs.Prelude.{ℕ, zero, suc, ◌+◌, ◌≡◌, Bool, false, cond, ◌||◌, leb}
use mathlib.Core.List.{List, [], ◌∷◌, ◌++◌, Memᴰ}
use Rattle.message.specs.Layout.{client_count, invoke_length, commit_length}
use Rattle.message.specs.Message.{is_reply}
use Rattle.replica.specs.Outcome as O
use Rattle.replica.specs.Outcome.{Told}
use Rattle.client_invoke.specs.Invoke.{invoke_step}
use Rattle.server.specs.Server.{server_step}
use Rattle.progress.specs.HonestRuns as H
use Rattle.progress.specs.HonestRuns.{World, Line, Action, act, run_from, start, told_in}
use Rattle.trial_words.specs.Words.{Asked, invoke, deliver, other}
use Rattle.trial_said.specs.Word.{Word, empty, halt, bad, full}
use Rattle.trial_core.specs.Sizes.{invoke_room, commit_room, full_at}
use Rattle.trial_core.specs.Trial.{Lent, line_step, start_trial, start_lent, trial_keys, told_word, served_word, is_success, is_client}
use Rattle.trial_core.specs.declared.Trial.{Trial}

-- ---- the actions of a line
-- "An `IN` the relay refuses … is offered again, without printing, before each later line, lowest van first": clients 1 to n. (The server
-- takes the head of a line; an empty line changes nothing.)
unfoldable pub offers : ℕ → List Action
offers zero = []
offers (suc n) = offers n ++ (H.serve (suc n) invoke_room ∷ [])

-- the broadcasts in a line: its messages but replies
unfoldable pub broadcasts_in : Line → ℕ
broadcasts_in [] = 0
broadcasts_in (m ∷ ms) = cond (is_reply m) 0 1 + broadcasts_in ms

-- "while 256 or more `BR`s are undelivered to some van": clients 1 to n
unfoldable pub some_full : World → ℕ → Bool
some_full w zero = false
some_full w (suc n) = some_full w n || leb full_at (broadcasts_in (w.down (suc n)))

-- "`IN` and `CO` reach the relay without delay": the server takes what a call wrote
unfoldable pub sent : ℕ → ℕ → Told → List Action
sent n room (O.invoked k) = H.serve n room ∷ []
sent n room (O.responded seq x) = H.serve n room ∷ []
sent n room (O.aborted seq) = H.serve n room ∷ []
sent n room O.opened = []
sent n room (O.confirmed seq status) = []
sent n room (O.refused k) = []
sent n room (O.halted k) = []

unfoldable pub sent_by : ℕ → List Told → List Action
sent_by n [] = []
sent_by n (t ∷ ts) = sent n commit_room t

-- `D van`: "deliver the relay's next message"
unfoldable pub deliver_actions : World → ℕ → List Action
deliver_actions w n = H.deliver n commit_length ∷ sent_by n (told_in w (H.deliver n commit_length))

-- `I van kind cell amount`; while full, it "does nothing"
unfoldable pub invoke_actions : World → ℕ → ℕ → ℕ → ℕ → List Action
invoke_actions w n kind cell amount =
    cond (some_full w client_count) [] (H.invoke n kind cell amount 0 invoke_length ∷ sent n invoke_room (invoke_step (w.replica n) kind cell amount 0 invoke_length).after.says)

unfoldable pub line_actions : World → Asked → List Action
line_actions w other = []
line_actions w (deliver n) = cond (is_client n) (deliver_actions w n) []
line_actions w (invoke n kind cell amount) = cond (is_client n) (invoke_actions w n kind cell amount) []

-- ---- what a line gives
-- the server's word on the head of the line from client n
unfoldable pub head_word : World → ℕ → Line → Word
head_word w n [] = empty
head_word w n (m ∷ ms) = served_word (server_step w.server n m invoke_room).says

-- "`placed` place", "`no` or `halt` number": the server's word on an invoke, else the client's
unfoldable pub invoked_word : World → ℕ → Told → Word
invoked_word w n t = cond (is_success t) (head_word w n (w.up n)) (told_word t)

unfoldable pub invoke_word : World → ℕ → ℕ → ℕ → ℕ → Word
invoke_word w n kind cell amount =
    cond (some_full w client_count) full
    (invoked_word (act w (H.invoke n kind cell amount 0 invoke_length)) n (invoke_step (w.replica n) kind cell amount 0 invoke_length).after.says)

unfoldable pub deliver_word : List Told → Word
deliver_word [] = empty
deliver_word (t ∷ ts) = told_word t

unfoldable pub line_word : World → Asked → Word
line_word w other = bad
line_word w (deliver n) = cond (is_client n) (deliver_word (told_in w (H.deliver n commit_length))) bad
line_word w (invoke n kind cell amount) = cond (is_client n) (invoke_word w n kind cell amount) bad

-- "A line of another form, or with a van not 1 to 8 or a number above 255, gives `bad`, with van 0"
unfoldable pub line_van : Asked → ℕ
line_van other = 0
line_van (deliver n) = cond (is_client n) n 0
line_van (invoke n kind cell amount) = cond (is_client n) n 0

-- ---- whole trials
-- the world in which a line is done: the refused invokes have been offered again
unfoldable pub offered : World → World
offered w = run_from w (offers client_count)

-- the world after a line
unfoldable pub after_line : World → Asked → World
after_line w a = run_from (offered w) (line_actions (offered w) a)

-- the world after a trial, its actions line by line, and what is printed: van and word of each line
unfoldable pub trial_world : World → List Asked → World
trial_world w [] = w
trial_world w (a ∷ more) = trial_world (after_line w a) more

unfoldable pub trial_actions : World → List Asked → List Action
trial_actions w [] = []
trial_actions w (a ∷ more) = offers client_count ++ (line_actions (offered w) a ++ trial_actions (after_line w a) more)

unfoldable pub trial_words : World → List Asked → List (ℕ × Word)
trial_words w [] = []
trial_words w (a ∷ more) = (line_van a, line_word (offered w) a) ∷ trial_words (after_line w a) more

-- what the program's step gives, line by line
unfoldable pub printed : Trial → Lent → List Asked → List (ℕ × Word)
printed t b [] = []
printed t b (a ∷ more) =
    let r = line_step t b a in (r.van, r.word) ∷ printed r.trial r.lent more

-- ---- the claims
-- the worlds of a trial are those of a run with a server that follows the rules, from a fresh server, empty lines and eight fresh clients
unfoldable pub TrialRun : Type 0
TrialRun = (lines : List Asked) → trial_world (start trial_keys) lines ≡ run_from (start trial_keys) (trial_actions (start trial_keys) lines)

-- what the program prints is what that run gives
unfoldable pub TrialHonest : Type 0
TrialHonest = (lines : List Asked) → printed start_trial start_lent lines ≡ trial_words (start trial_keys) lines

-- `halt` is never printed
unfoldable pub NeverHalt : Type 0
NeverHalt = (lines : List Asked) (n k : ℕ) → Memᴰ (n, halt k) (printed start_trial start_lent lines) → ⊥
