use Rattle.std.proofs.Common.{arith, None}
use Rattle.yspec.specs.linking.Prefixes.{prefix_break}
use Rattle.ybase_preorder.specs.View.{slots_in}
use Rattle.ylink_grammar.specs.BreakView.{seen}
use Rattle.ylink_grammar.specs.LinkView.{view}
use Rattle.ylink_names.proofs.ToldLemmas.{next_told, all_told}
use Rattle.ylink_names.proofs.prefix.undeclared_prefix.Goals as goal

pub loop-row-preserved : goal.loop-row-preserved
loop-row-preserved c =
    let modules = view c.args.sources.now in
    let i = c.loop-row.row-index in
    next_told (prefix_break modules) _ (slots_in c.args.sources.now.table) c.slots-row-items.ensures i c.row-item.result (seen c.loop-row.told) (seen c.in_ok-told.told) _
    (omega arith) c.row-item.is (c.in_ok-told.ensures modules i c.requires) c.loop-row.invariant

pub returns : goal.returns
returns c =
    all_told (prefix_break (view c.args.sources.now)) _ (slots_in c.args.sources.now.table) c.slots-row-items.ensures c.loop-row.row-index (seen c.loop-row.told) None
    (omega arith) c.loop-row.invariant
