use Rattle.std.proofs.Common.{arith, ap}
use Rattle.yspec.specs.Forest.{size}
use Rattle.ybase_preorder.proofs.RowLemmas.{size_forest}
use Rattle.ylink_grammar.proofs.refining.count_with.Goals as goal

pub overflow_add-count : goal.overflow_add-count
overflow_add-count c =
    let taken = ap size c.in-Some.ensures.steps.0 in
    let whole = size_forest c.args.statements.slots.now in
    omega (arith, taken, whole, c.loop-statement.invariant.few, c.args.statements.numbered)
