use Rattle.std.proofs.Common.{◌∙◌, ap, arith, List}
use Rattle.yspec.specs.schema.Breaks.{Break, least_from}
use Rattle.yspec.specs.linking.Source.{Source}
use Rattle.ybase_preorder.specs.Layout.{forest_of}
use Rattle.ybase_preorder.specs.View.{slots_in}
use Rattle.ylink_grammar.specs.BreakView.{seen}
use Rattle.ylink_grammar.specs.SourceView.{source_view}
use Rattle.ylink_names.specs.MeaningView.{meaning_at, lost_by}
use Rattle.ylink_names.proofs.NumberedLemmas.{all_lost}
use Rattle.ylink_names.proofs.ToldLemmas.{next_told, all_told}
use Rattle.ylink_names.proofs.lost.broken_lost_rule.Goals as goal

pub loop-number-preserved : goal.loop-number-preserved
loop-number-preserved c =
    let i = c.loop-number.number in
    let row = c.row-item.result in
    let told = seen c.loop-number.told in
    let breaks : Source → List Break = λ s. lost_by s (meaning_at c.args.meanings.now s.number) in
    next_told breaks _ (slots_in c.args.sources.now.table) c.slots-row-items.ensures i row told (seen c.judge_lost-told.result) _ (omega arith) c.row-item.is
    (c.judge_lost-told.ensures i ∙ ap (λ m. least_from told (lost_by (source_view i row.label) m)) c.meaning_at.ensures) c.loop-number.invariant

pub returns : goal.returns
returns c are =
    let rows = slots_in c.args.sources.now.table in
    let breaks : Source → List Break = λ s. lost_by s (meaning_at c.args.meanings.now s.number) in
    all_told breaks _ rows c.slots-row-items.ensures c.loop-number.number (seen c.loop-number.told) (seen c.args.so_far) (omega arith) c.loop-number.invariant
    ∙ ap (least_from (seen c.args.so_far)) (all_lost (forest_of rows) c.args.meanings.now are)
