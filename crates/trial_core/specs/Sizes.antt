-- The sizes of what the trial program keeps and lends. Limits and lengths of document 01 are those of operation and message.
use Rattle.std.specs.Prelude.{ℕ}

-- bytes lent to the server for an invoke (a reply of 32 items) and for a commit (32 broadcasts). A client is lent a message's bytes:
-- always enough
abbrev pub invoke_room : ℕ
invoke_room = 1315

abbrev pub commit_room : ℕ
commit_room = 2560

-- how many broadcasts the log keeps, and its bytes
abbrev pub log_size : ℕ
log_size = 512

abbrev pub log_length : ℕ
log_length = 40960

-- a reply and an invoke for each client
abbrev pub replies_length : ℕ
replies_length = 10520

abbrev pub invokes_length : ℕ
invokes_length = 344

-- "while 256 or more `BR`s are undelivered"
abbrev pub full_at : ℕ
full_at = 256
