-- What a call says to a program in C or Rust: document 01's number and values, as four numbers (the last one signed).
use Rattle.std.specs.Prelude.{ℕ, ℤ, pos}
use Rattle.replica.specs.Outcome.{Told, opened, invoked, responded, aborted, confirmed, refused, halted}
use Rattle.server.specs.Server.{ServerTold, placed, broadcast, refused as serverRefused}
use Rattle.cop_said.specs.declared.Said.{Said}

-- "a success …, each with its own data": which one it is, and what it brings
abbrev pub success_said : ℕ → ℕ → ℤ → Said
success_said what first second = record { what = what; number = 0; first = first; second = second }

-- "refusals: … only the number comes back"
abbrev pub refusal_said : ℕ → Said
refusal_said n = record { what = 0; number = n; first = 0; second = pos 0 }

-- "20 to 25 are halts", and 26 (document 02, Q-4)
abbrev pub halt_said : ℕ → Said
halt_said n = record { what = 1; number = n; first = 0; second = pos 0 }

-- the client's calls: "An answer and "aside" bring their place; a confirmation brings place and status. A made entry brings its own count"
abbrev pub said : Told → Said
said opened = success_said 2 0 (pos 0)
said (invoked n) = success_said 3 n (pos 0)
said (responded p a) = success_said 4 p a
said (aborted p) = success_said 5 p (pos 0)
said (confirmed p s) = success_said 6 p (pos s)
said (refused n) = refusal_said n
said (halted n) = halt_said n

-- the server's: "the relay's `IN` its place, the relay's `CO` how many `BR`s it wrote"
abbrev pub server_said : ServerTold → Said
server_said (placed p) = success_said 7 p (pos 0)
server_said (broadcast n) = success_said 8 n (pos 0)
server_said (serverRefused n) = refusal_said n
