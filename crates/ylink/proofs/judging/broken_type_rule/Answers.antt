use Rattle.std.proofs.Common.{◌∙◌, ap, arith, List, None}
use Rattle.yspec.specs.schema.Breaks.{Break, least_from}
use Rattle.yspec.specs.linking.Source.{Source}
use Rattle.ybase_preorder.specs.Layout.{forest_of}
use Rattle.ybase_preorder.specs.View.{slots_in}
use Rattle.ylink_grammar.specs.BreakView.{seen}
use Rattle.ylink_grammar.specs.SourceView.{source_view}
use Rattle.ylink_names.proofs.ToldLemmas.{next_told, all_told}
use Rattle.ylink.specs.VerdictView.{table_view, verdict_held, told_by}
use Rattle.ylink.proofs.VerdictLemmas.{all_judged}
use Rattle.ylink.proofs.judging.broken_type_rule.Goals as goal

pub loop-number-preserved : goal.loop-number-preserved
loop-number-preserved c =
    let i = c.loop-number.number in
    let row = c.row-item.result in
    let told = seen c.loop-number.told in
    let table = table_view c.args.verdicts.now in
    let breaks : Source → List Break = λ s. told_by s (verdict_held table s.number) in
    next_told breaks _ (slots_in c.args.sources.now.table) c.slots-row-items.ensures i row told (seen c.judge_verdict-told.result) _ (omega arith) c.row-item.is
    (c.judge_verdict-told.ensures i ∙ ap (λ v. least_from told (told_by (source_view i row.label) v)) c.verdict_held.ensures) c.loop-number.invariant

pub returns : goal.returns
returns c are =
    let rows = slots_in c.args.sources.now.table in
    let table = table_view c.args.verdicts.now in
    let breaks : Source → List Break = λ s. told_by s (verdict_held table s.number) in
    all_told breaks _ rows c.slots-row-items.ensures c.loop-number.number (seen c.loop-number.told) None (omega arith) c.loop-number.invariant
    ∙ ap (least_from None) (all_judged (forest_of rows) table are)
