use Rattle.std.proofs.Common.{◌∙◌, ap, arith, List}
use Rattle.yspec.specs.schema.Breaks.{Break, least_from}
use Rattle.yspec.specs.linking.Source.{Source}
use Rattle.ybase_preorder.specs.Layout.{forest_of}
use Rattle.ybase_preorder.specs.View.{slots_in}
use Rattle.ylink_grammar.specs.BreakView.{seen}
use Rattle.ylink_grammar.specs.SourceView.{source_view}
use Rattle.ylink_names.specs.EdgeView.{flag_at, circle_by}
use Rattle.ylink_names.proofs.NumberedLemmas.{all_circular}
use Rattle.ylink_names.proofs.ToldLemmas.{next_told, all_told}
use Rattle.ylink_names.proofs.circular.least_circle.Goals as goal

pub loop-number-preserved : goal.loop-number-preserved
loop-number-preserved c =
    let i = c.loop-number.number in
    let row = c.row-item.result in
    let told = seen c.loop-number.told in
    let breaks : Source → List Break = λ s. circle_by s (flag_at c.args.circular.now s.number) in
    next_told breaks _ (slots_in c.args.sources.now.table) c.slots-row-items.ensures i row told (seen c.judge_circle-told.result) _ (omega arith) c.row-item.is
    (c.judge_circle-told.ensures i ∙ ap (λ m. least_from told (circle_by (source_view i row.label) m)) c.flag_at.ensures) c.loop-number.invariant

pub returns : goal.returns
returns c flag are =
    let rows = slots_in c.args.sources.now.table in
    let breaks : Source → List Break = λ s. circle_by s (flag_at c.args.circular.now s.number) in
    all_told breaks _ rows c.slots-row-items.ensures c.loop-number.number (seen c.loop-number.told) (seen c.args.so_far) (omega arith) c.loop-number.invariant
    ∙ ap (least_from (seen c.args.so_far)) (all_circular (forest_of rows) c.args.circular.now flag are)
