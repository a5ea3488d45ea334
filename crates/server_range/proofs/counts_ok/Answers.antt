use Rattle.std.proofs.Common.{ℕ, Bool, List, [], ◌∷◌, ◌≡◌, ◌∙◌, ◌&&◌, refl, ap, rules, tests}
use lib.Dec.{leb}
use Rattle.std.specs.List.{list_all}
use Rattle.std.proofs.lemmas.Iterator.{YieldsList-from_slice}
use Rattle.std.proofs.lemmas.Iterator.Search.{all_from_yields_List}
use Rattle.slices.specs.Bytes.{all}
use Rattle.server_range.proofs.counts_ok.Goals as goal

list_all_is : (p : ℕ → Bool) (s : List ℕ) → list_all p s ≡ all p s
unfolding all
list_all_is p [] = refl
list_all_is p (x ∷ s) = ap (λ b. p x && b) (list_all_is p s)

pub returns : goal.returns
returns c =
    let p : ℕ → Bool = λ x. leb x 1000000 in
    all_from_yields_List p _ _ _ c.all.ensures.ran (YieldsList-from_slice c.args.counts.now cc) (λ x b q k. search (rules, tests)) ∙ list_all_is p c.args.counts.now
