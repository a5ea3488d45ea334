-- A number within a list's length counts elements at its front; a word that is not there is empty.
use Prim.Native.Nat.{ℕ, ◌≤◌}
use mathlib.Core.Path.{◌≡◌, sym, ap, ◌∙◌}
use mathlib.Core.List.{List, []}
use lib.ListN.{length, take}
use lib.Seq.{length-take-le}
use denote.Ref.{Bor}
use Rattle.std.specs.Prelude.{Some, None}
use Rattle.std.specs.declared.option.Option.{Option}
use Rattle.std.specs.Option.{unwrap_or, option_map}

pub counts : (n : ℕ) (xs : List ℕ) → n ≤ length xs → n ≡ length (take n xs)
counts n xs h = sym (length-take-le n xs h)

pub word_of : {u : Bor (List ℕ)} (r : Option (Bor (List ℕ))) (d : Bor (List ℕ)) → u ≡ unwrap_or r d → d.now ≡ [] → u.now ≡ unwrap_or (option_map (λ (x : Bor (List ℕ)). x.now) r) []
word_of None d p e = ap (λ (x : Bor (List ℕ)). x.now) p ∙ e
word_of (Some x) d p e = ap (λ (x : Bor (List ℕ)). x.now) p
