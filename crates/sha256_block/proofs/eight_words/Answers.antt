use Rattle.sha256_block.specs.Inner.{add_word}
use Rattle.sha256_block.proofs.Steps.{eight_is}
use Rattle.sha256_block.proofs.eight_words.Goals as goal

pub returns : goal.returns
returns c =
    eight_is add_word c.args.t c.args.w.now c.add_word.ensures c.add_word-2.ensures c.add_word-3.ensures c.add_word-4.ensures
    c.add_word-5.ensures c.add_word-6.ensures c.add_word-7.ensures c.add_word-8.ensures
