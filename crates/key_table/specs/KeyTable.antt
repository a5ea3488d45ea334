-- Internal: tables of what tags start from. No part of the protocol.
use Rattle.std.specs.Prelude.{ℕ, ◌≤◌, ◌≡◌, List, Option, Some, None, get_or}
use Rattle.hmac.specs.declared.Keyed.{Keyed}
use Rattle.hmac.specs.Keyed.{keyed_of}
use Rattle.message.specs.Layout.{client_count}
use Rattle.verify.specs.Verify.{key_of}
use Rattle.key_table.specs.declared.KeyTable.{KeyTable}

-- s is what tags by a client's key start from
abbrev pub StateOf : List ℕ → ℕ → Keyed → Type 0
StateOf keys n s = s ≡ keyed_of (key_of keys n)

-- what a table has of a client
abbrev pub kept : KeyTable → ℕ → Option Keyed
kept t n = get_or t.states n None

-- the state that is known of a client, if one is, is that client's
abbrev pub RightOf : List ℕ → KeyTable → ℕ → Type 0
RightOf keys t n = (s : Keyed) → kept t n ≡ Some s → 1 ≤ n → n ≤ client_count → StateOf keys n s

-- each client's state that is known is that client's
pub record Right (keys : List ℕ) (t : KeyTable) : Type 0 where
  pub each : (n : ℕ) (s : Keyed) → kept t n ≡ Some s → 1 ≤ n → n ≤ client_count → StateOf keys n s
