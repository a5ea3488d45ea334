-- The places of a replica: the chain value at each sequence number from c on, and the own status at each past c; c is the last confirmed
-- one. "the chain from c on (up to 32 places past c, in place order), its own statuses at those places" (document 01, "What a van does").
-- Where a place is stored is known only here: to value_at, status_at, hold_value, hold_status, confirm_value, confirm_status, no_values, no_statuses,
-- statuses_ok, unused_statuses and unused_values.
use Rattle.std.specs.Prelude.{ℕ, ◌+◌, ◌*◌, List, [], ◌∷◌, ◌++◌, Bool, get_or, set, drop, replicate, leb}
use Rattle.slices.specs.Bytes.{all, is_zero, put}
use Rattle.operation.specs.Operation.{max_pending}
use Rattle.message.specs.Layout.{digest_length, digest_at}

-- the chain value at place c + k
abbrev pub value_at : ℕ → ℕ → List ℕ → List ℕ
value_at c k chain = digest_at k chain

-- the own status at place c + 1 + k: 0 none, 1 success, 2 aborted
abbrev pub status_at : ℕ → ℕ → List ℕ → ℕ
status_at c k statuses = get_or statuses k 0

-- the chain with this value at place c + k
abbrev pub hold_value : ℕ → ℕ → List ℕ → List ℕ → List ℕ
hold_value c k value chain = put chain (k * digest_length) value

-- the statuses with this one at place c + 1 + k
abbrev pub hold_status : ℕ → ℕ → ℕ → List ℕ → List ℕ
hold_status c k status statuses = set statuses k status

-- chain and statuses once place c + 1 is confirmed, where the chain has this value
abbrev pub confirm_value : ℕ → List ℕ → List ℕ → List ℕ
confirm_value c value chain = value ++ drop (2 * digest_length) chain ++ replicate digest_length 0

abbrev pub confirm_status : ℕ → List ℕ → List ℕ
confirm_status c statuses = drop 1 statuses ++ (0 ∷ [])

-- "The chain value at place 0 is 32 zero bytes." No place is held, and none has a status.
abbrev pub chain_length : ℕ
chain_length = 1056

abbrev pub no_values : List ℕ
no_values = replicate chain_length 0

abbrev pub no_statuses : List ℕ
no_statuses = replicate max_pending 0

-- "statuses 1, 0 or none" (stored as 1, 2 and 0)
abbrev pub statuses_ok : List ℕ → Bool
statuses_ok statuses = all (λ x. leb x 2) statuses

-- "unused slots zero": statuses and chain values past place c + held
abbrev pub unused_statuses : ℕ → ℕ → List ℕ → Bool
unused_statuses c held statuses = all is_zero (drop held statuses)

abbrev pub unused_values : ℕ → ℕ → List ℕ → Bool
unused_values c held chain = all is_zero (drop ((held + 1) * digest_length) chain)
