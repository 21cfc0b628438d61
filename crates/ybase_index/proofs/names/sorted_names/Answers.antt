use Rattle.std.proofs.Common.{length, arith}
use Rattle.ybase_index.proofs.SortedLemmas.{have_all}
use Rattle.ybase_index.proofs.names.sorted_names.Goals as goal

pub returns-clause-whole : goal.returns-clause-whole
returns-clause-whole c =
    let ended = c.loop-node-test.false in
    let counted = c.loop-node.invariant.counted in
    have_all (length c.args.texts.now) c.loop-node.names.items c.sort.new.self.items (omega (arith, ended, counted))
    (λ k d within. c.loop-node.invariant.numbered k d (omega (arith, ended, within))) c.in_ok-sort.ensures.permutation
