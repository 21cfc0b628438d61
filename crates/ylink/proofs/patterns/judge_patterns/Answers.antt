use Rattle.std.proofs.Common.{[], ◌∷◌, ap, ◌∙◌, arith}
use Rattle.yspec.specs.schema.Breaks.{broken, least_from, when}
use Rattle.ybase_preorder.specs.View.{slots_in}
use Rattle.ylink_grammar.specs.BreakView.{break_view, seen}
use Rattle.ylink_grammar.specs.LanguageView.{language_view}
use Rattle.ylink_grammar.specs.LinkView.{view}
use Rattle.ylink_grammar.specs.SourceView.{source_view}
use Rattle.ylink_names.proofs.ToldLemmas.{next_told, all_told}
use Rattle.ylink.specs.PatternView.{unspelled_break}
use Rattle.ylink.proofs.PatternLemmas.{unspelled_breaks}
use Rattle.ylink.proofs.patterns.judge_patterns.Goals as goal

pub loop-row-preserved : goal.loop-row-preserved
loop-row-preserved c =
    let language = language_view c.args.language.now in
    let i = c.loop-row.row-index in
    let told = seen c.loop-row.told in
    let s = source_view i c.row-item.result.label in
    next_told (unspelled_break language) _ (slots_in c.args.sources.now.table) c.slots-row-items.ensures i c.row-item.result told (seen c.least_when-told.result) _
    (omega arith) c.row-item.is
    (c.least_when-told.ensures ∙ (ap (λ b. least_from told (when c.in_ok-wrong.wrong (break_view b ∷ []))) c.broken-rule.ensures
    ∙ ap (λ b. least_from told (when b (broken 20 s.home s.statement.line))) (c.in_ok-wrong.ensures i))) c.loop-row.invariant

pub returns : goal.returns
returns c =
    let language = language_view c.args.language.now in
    all_told (unspelled_break language) _ (slots_in c.args.sources.now.table) c.slots-row-items.ensures c.loop-row.row-index (seen c.loop-row.told) (seen c.args.so_far)
    (omega arith) c.loop-row.invariant ∙ ap (least_from (seen c.args.so_far)) (unspelled_breaks language (view c.args.sources.now))
