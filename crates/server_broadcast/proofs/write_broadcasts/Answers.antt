use mathlib.Core.Path.{◌≡◌, ◌∙◌}
use lib.ListN.{length}
use native.Mathlib.Omega.{arith}
use borrow.Author.Rules.{rules}
use Rattle.server_broadcast.proofs.Laws.{broadcasts_more}
use Rattle.server_broadcast.proofs.write_broadcasts.Goals as goal

pub loop-k-preserved : goal.loop-k-preserved
loop-k-preserved c =
    let o = c.loop-k in
    let w = c.write_broadcast in
    let l : length w.new.out ≡ length o.out = search rules in
    record {
      so_far = broadcasts_more c.args.s.now c.args.out.now o.out o.k (omega arith) o.invariant.same_length o.invariant.so_far (rw (w.ensures, c.slot_commit.ensures));
      same_length = l ∙ o.invariant.same_length;
    }
