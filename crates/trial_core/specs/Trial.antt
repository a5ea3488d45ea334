-- The trial of document 01, "Cases", as the program keeps it: eight clients, the server, and the lines between them. That a trial is
-- a run with a server that follows the rules, line by line, is theorem `trial_honest` of crate trial_laws.
use Rattle.std.specs.Prelude.{ℕ, zero, suc, ◌+◌, ◌-◌, ◌*◌, ◌%◌, List, [], ◌∷◌, ◌++◌, Bool, true, false, cond, not, ◌&&◌, ◌||◌, length, get_or, set, take, drop, replicate, leb, ltb, eqb}
use Rattle.slices.specs.Bytes.{put}
use Rattle.operation.specs.Operation.{max_pending}
use Rattle.message.specs.Layout.{client_count, max_seq, key_length, invoke_length, commit_length}
use Rattle.trial_words.specs.Words.{Asked, invoke, deliver, other}
use Rattle.trial_said.specs.Word.{Word, placed, answer, aside, confirm, empty, nay, halt, bad, full}
use Rattle.replica.specs.declared.Replica.{Replica}
use Rattle.replica.specs.Outcome as O
use Rattle.replica.specs.Outcome.{Told}
use Rattle.replica.specs.Replica.{Step, over, zero_replica}
use Rattle.client_open.specs.Open.{open_step}
use Rattle.client_invoke.specs.Invoke.{invoke_step}
use Rattle.client.specs.Receive.{receive_step}
use Rattle.server.specs.declared.Server.{Server}
use Rattle.server.specs.Server as S
use Rattle.server.specs.Server.{ServerTold, fresh_server, server_step}
use Rattle.trial_core.specs.declared.Lent as D
use Rattle.trial_core.specs.declared.Lines.{Lines}
use Rattle.trial_core.specs.declared.Trial.{Trial}
use Rattle.trial_core.specs.Sizes.{invoke_room, commit_room, log_size, log_length, replies_length, invokes_length, full_at}

-- ---- outcomes as words
-- `answer` place answer; `aside` place; `confirm` place status; `no` or `halt` number. (An opening or an invoke prints nothing by itself.)
abbrev pub told_word : Told → Word
told_word O.opened = empty
told_word (O.invoked n) = empty
told_word (O.responded seq x) = answer seq x
told_word (O.aborted seq) = aside seq
told_word (O.confirmed seq status) = confirm seq status
told_word (O.refused n) = nay n
told_word (O.halted n) = halt n

-- `placed` place, or `no` number. (A commit prints nothing.)
abbrev pub served_word : ServerTold → Word
served_word (S.placed seq) = placed seq
served_word (S.broadcast n) = empty
served_word (S.refused n) = nay n

-- whether a client's call is a success
abbrev pub is_success : Told → Bool
is_success O.opened = true
is_success (O.invoked n) = true
is_success (O.responded seq x) = true
is_success (O.aborted seq) = true
is_success (O.confirmed seq status) = true
is_success (O.refused n) = false
is_success (O.halted n) = false

-- whether the server placed an invoke, and how many broadcasts it wrote
abbrev pub is_placed : ServerTold → Bool
is_placed (S.placed seq) = true
is_placed (S.broadcast n) = false
is_placed (S.refused n) = false

abbrev pub broadcast_count : ServerTold → ℕ
broadcast_count (S.placed seq) = 0
broadcast_count (S.broadcast n) = n
broadcast_count (S.refused n) = 0

-- ---- the lines to the clients, client i + 1 at i
-- a reply of this many bytes at the end of a line on which `passed` broadcasts have been put; no invoke waits
unfoldable pub with_reply : Lines → ℕ → ℕ → ℕ → Lines
with_reply l i passed n =
    record { next = l.next; before = set l.before i passed; lengths = set l.lengths i n; refused = set l.refused i false }

-- the invoke waits to be offered again
unfoldable pub with_refused : Lines → ℕ → Lines
with_refused l i = record { next = l.next; before = l.before; lengths = l.lengths; refused = set l.refused i true }

-- the reply is taken
unfoldable pub without_reply : Lines → ℕ → Lines
without_reply l i = record { next = l.next; before = l.before; lengths = set l.lengths i 0; refused = l.refused }

-- a broadcast is taken
unfoldable pub without_broadcast : Lines → ℕ → Lines
without_broadcast l i =
    record { next = set l.next i (get_or l.next i 0 + 1); before = l.before; lengths = l.lengths; refused = l.refused }

-- whether the head of the line is the reply, of at most 1315 bytes; else whether it is a broadcast
abbrev pub reply_first : Lines → ℕ → Bool
reply_first l i = not (eqb (get_or l.lengths i 0) 0) && leb (get_or l.lengths i 0) invoke_room && eqb (get_or l.before i 0) (get_or l.next i 0)

abbrev pub broadcast_first : Lines → ℕ → ℕ → Bool
broadcast_first l i passed = ltb (get_or l.next i 0) passed

-- the bytes of client i + 1's reply and of its invoke, and of the broadcast that `p` others precede
abbrev pub queued_reply : Lines → List ℕ → ℕ → List ℕ
queued_reply l replies i = take (get_or l.lengths i 0) (drop (i * invoke_room) replies)

abbrev pub kept_invoke : List ℕ → ℕ → List ℕ
kept_invoke invokes i = take invoke_length (drop (i * invoke_length) invokes)

abbrev pub logged_broadcast : List ℕ → ℕ → List ℕ
logged_broadcast log p = take commit_length (drop (p % log_size * commit_length) log)

-- the log with the first n of these broadcasts, after `passed` others
unfoldable pub logged : List ℕ → ℕ → ℕ → List ℕ → List ℕ
logged log passed zero bytes = log
logged log passed (suc k) bytes = put (logged log passed k bytes) ((passed + k) % log_size * commit_length) (take commit_length (drop (k * commit_length) bytes))

-- "while 256 or more `BR`s are undelivered to some van": clients 1 to n
unfoldable pub is_full : List ℕ → ℕ → ℕ → Bool
is_full next passed zero = false
is_full next passed (suc k) = is_full next passed k || leb (get_or next k 0 + full_at) passed

-- ---- the server takes an invoke
pub record Offering : Type 0 where
  pub server : Server
  pub lines : Lines
  pub word : Word
  pub replies : List ℕ

unfoldable pub offered_lines : Lines → ℕ → S.Step → Lines
offered_lines l i q = cond (is_placed q.says) (with_reply l i q.server.passed (length q.wrote)) (with_refused l i)

-- m is the invoke of client i + 1: placed, its reply goes to the client's line; refused, it waits
unfoldable pub offer : Server → Lines → ℕ → List ℕ → List ℕ → Offering
offer s l i m replies =
    record {
      server = (server_step s (i + 1) m invoke_room).server;
      lines = offered_lines l i (server_step s (i + 1) m invoke_room);
      word = served_word (server_step s (i + 1) m invoke_room).says;
      replies = put replies (i * invoke_room) (server_step s (i + 1) m invoke_room).wrote;
    }

-- whether the server has a place to give (a law of trial_laws: where it has none, it refuses every invoke)
unfoldable pub has_place : Server → Bool
has_place s = leb s.passed s.placed && ltb (s.placed - s.passed) max_pending && ltb s.placed max_seq

-- "offered again, without printing, before each later line, lowest van first": clients 1 to n
unfoldable pub offer_one : Offering → ℕ → List ℕ → Offering
offer_one o i invokes =
    cond (get_or o.lines.refused i false && has_place o.server) (offer o.server o.lines i (kept_invoke invokes i) o.replies) o

unfoldable pub offer_to : ℕ → Server → Lines → List ℕ → List ℕ → Offering
offer_to zero s l replies invokes = record { server = s; lines = l; word = empty; replies = replies }
offer_to (suc k) s l replies invokes = offer_one (offer_to k s l replies invokes) k invokes

-- ---- what a line of input does with client i + 1
pub record Move : Type 0 where
  pub replica : Replica
  pub server : Server
  pub lines : Lines
  pub word : Word
  pub log : List ℕ
  pub replies : List ℕ
  pub invokes : List ℕ

-- the bytes that are lent from line to line: log, replies and invokes
abbrev pub Lent : Type 0
Lent = D.Lent

-- "`IN` and `CO` reach the relay without delay": an invoke that a client wrote …
unfoldable pub invoked_move : Step → Server → Lines → ℕ → Lent → Move
invoked_move q s l i b =
    let invokes = put b.invokes (i * invoke_length) q.wrote in
    let o = offer s l i (kept_invoke invokes i) b.replies in
    record {
      replica = q.after.replica;
      server = o.server;
      lines = o.lines;
      word = o.word;
      log = b.log;
      replies = o.replies;
      invokes = invokes;
    }

-- a call that changes nothing but, in a halt, the replica
unfoldable pub stopped_move : Step → Server → Lines → Lent → Move
stopped_move q s l b =
    record {
      replica = q.after.replica;
      server = s;
      lines = l;
      word = told_word q.after.says;
      log = b.log;
      replies = b.replies;
      invokes = b.invokes;
    }

-- "The trial program's kind 5 has temperature 0" (document 02, Q-2): the last byte is 0
unfoldable pub invoke_move : Replica → Server → Lines → ℕ → ℕ → ℕ → ℕ → Lent → Move
invoke_move r s l i kind cell amount b =
    cond (is_success (invoke_step r kind cell amount 0 invoke_length).after.says)
    (invoked_move (invoke_step r kind cell amount 0 invoke_length) s l i b)
    (stopped_move (invoke_step r kind cell amount 0 invoke_length) s l b)

-- … and a commit, whose broadcasts go to the lines of all
unfoldable pub replied_move : Step → Server → Lines → ℕ → Lent → Move
replied_move q s l i b =
    let c = server_step s (i + 1) (over q.wrote (replicate commit_length 0)) commit_room in
    record {
      replica = q.after.replica;
      server = c.server;
      lines = without_reply l i;
      word = told_word q.after.says;
      log = logged b.log s.passed (broadcast_count c.says) c.wrote;
      replies = b.replies;
      invokes = b.invokes;
    }

unfoldable pub confirmed_move : Step → Server → Lines → ℕ → Lent → Move
confirmed_move q s l i b =
    record {
      replica = q.after.replica;
      server = s;
      lines = without_broadcast l i;
      word = told_word q.after.says;
      log = b.log;
      replies = b.replies;
      invokes = b.invokes;
    }

-- "A refused message remains at the head of its line."
unfoldable pub reply_move : Replica → Server → Lines → ℕ → Lent → Move
reply_move r s l i b =
    let q = receive_step r (queued_reply l b.replies i) commit_length in
    cond (is_success q.after.says) (replied_move q s l i b) (stopped_move q s l b)

unfoldable pub broadcast_move : Replica → Server → Lines → ℕ → Lent → Move
broadcast_move r s l i b =
    let q = receive_step r (logged_broadcast b.log (get_or l.next i 0)) commit_length in
    cond (is_success q.after.says) (confirmed_move q s l i b) (stopped_move q s l b)

unfoldable pub empty_move : Replica → Server → Lines → Lent → Move
empty_move r s l b =
    record { replica = r; server = s; lines = l; word = empty; log = b.log; replies = b.replies; invokes = b.invokes }

-- the client takes the head of its line
unfoldable pub deliver_move : Replica → Server → Lines → ℕ → Lent → Move
deliver_move r s l i b =
    cond (reply_first l i)
    (reply_move r s l i b)
    (cond (broadcast_first l i s.passed) (broadcast_move r s l i b) (empty_move r s l b))

-- ---- one line of input
-- the trial and the lent bytes after it, the van printed, and the word
pub record LineStep : Type 0 where
  pub trial : Trial
  pub lent : Lent
  pub van : ℕ
  pub word : Word

-- the move of client i + 1, as a result
unfoldable pub moved : Trial → ℕ → Move → LineStep
moved t i m =
    record {
      trial = record { replicas = set t.replicas i m.replica; server = m.server; lines = m.lines };
      lent = record { log = m.log; replies = m.replies; invokes = m.invokes };
      van = i + 1;
      word = m.word;
    }

unfoldable pub unmoved : Trial → Lent → ℕ → Word → LineStep
unmoved t b van word = record { trial = t; lent = b; van = van; word = word }

abbrev pub replica_of : Trial → ℕ → Replica
replica_of t i = get_or t.replicas i zero_replica

-- the refused invokes offered again
unfoldable pub again_of : Trial → Lent → Offering
again_of t b = offer_to client_count t.server t.lines b.replies b.invokes

unfoldable pub again_trial : Trial → Offering → Trial
again_trial t o = record { replicas = t.replicas; server = o.server; lines = o.lines }

unfoldable pub again_lent : Lent → Offering → Lent
again_lent b o = record { log = b.log; replies = o.replies; invokes = b.invokes }

abbrev pub is_client : ℕ → Bool
is_client n = leb 1 n && leb n client_count

-- "A line of another form, or with a van not 1 to 8 … gives `bad`, with van 0 and no data. Next, while 256 or more `BR`s are undelivered
-- to some van, an `I` does nothing and gives `full` and no data."
unfoldable pub command_step : Trial → Lent → Asked → LineStep
command_step t b other = unmoved t b 0 bad
command_step t b (deliver n) =
    cond (is_client n)
    (moved t (n - 1) (deliver_move (replica_of t (n - 1)) t.server t.lines (n - 1) b))
    (unmoved t b 0 bad)
command_step t b (invoke n kind cell amount) =
    cond (is_client n)
    (cond (is_full t.lines.next t.server.passed client_count)
    (unmoved t b n full)
    (moved t (n - 1) (invoke_move (replica_of t (n - 1)) t.server t.lines (n - 1) kind cell amount b)))
    (unmoved t b 0 bad)

unfoldable pub line_step : Trial → Lent → Asked → LineStep
line_step t b a = let o = again_of t b in command_step (again_trial t o) (again_lent b o) a

-- ---- the start
-- "Van j's key is 32 bytes of value j."
unfoldable pub keys_to : ℕ → List ℕ
keys_to zero = []
keys_to (suc n) = keys_to n ++ replicate key_length (suc n)

abbrev pub trial_keys : List ℕ
trial_keys = keys_to client_count

unfoldable pub replicas_to : ℕ → List Replica
replicas_to zero = []
replicas_to (suc n) = replicas_to n ++ ((open_step (suc n) trial_keys).replica ∷ [])

unfoldable pub start_trial : Trial
start_trial =
    record {
      replicas = replicas_to client_count;
      server = fresh_server;
      lines = record { next = replicate client_count 0; before = replicate client_count 0; lengths = replicate client_count 0; refused = replicate client_count false };
    }

-- the bytes lent at the start are zero
unfoldable pub start_lent : Lent
start_lent = record { log = replicate log_length 0; replies = replicate replies_length 0; invokes = replicate invokes_length 0 }
