use Rattle.std.proofs.Common.{rules, tests, refl, ap, ◌∙◌, [], List, ℕ, Option}
use Rattle.std.proofs.lemmas.Iterator.Consumers.{nth_from_yields_List}
use Rattle.std.proofs.lemmas.Iterator.Splits.{YieldsList-from_slice_split}
use Rattle.std.specs.Option.{unwrap_or}
use Rattle.call_lines.proofs.Laws.{word_of}
use Rattle.call_lines.proofs.nth_word.Goals as goal

pub returns : goal.returns
returns c =
    let n = nth_from_yields_List _ _ c.args.k c.nth.ensures.ran (YieldsList-from_slice_split _ _ c.args.line.now c.split.ensures.rest c.split.ensures.done c.split.ensures.closure (λ x r q k. search (rules, tests))) in
    word_of c.nth.result _ c.unwrap_or.ensures refl ∙ ap (λ (o : Option (List ℕ)). unwrap_or o []) n
