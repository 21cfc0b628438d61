use Rattle.std.proofs.Common.{◌∷◌, [], ap, ◌∙◌, arith, is_some, cond, Some, None}
use Rattle.yspec.specs.Forest.{first_of}
use Rattle.yspec.specs.text.Text.{is_text}
use Rattle.yspec.specs.linking.Source.{argument_in}
use Rattle.ybase_preorder.specs.View.{label_by}
use Rattle.yspec.specs.schema.Breaks.{broken, least_from, when}
use Rattle.ytext.specs.View.{view}
use Rattle.ylink_grammar.specs.BreakView.{break_view, seen}
use Rattle.ylink_grammar.specs.declared.source.Source.{Source}
use Rattle.ylink_grammar.specs.SourceView.{source_view}
use Rattle.ylink_names.specs.FirstNamedView.{named}
use Rattle.ylink_names.proofs.RepeatedLemmas.{held_more, next_repeated, all_repeated}
use Rattle.ylink_names.proofs.repeated.judge_repeated.Goals as goal

pub loop-statement-preserved : goal.loop-statement-preserved
loop-statement-preserved c =
    let held = c.loop-statement.invariant in
    let source = label_by source_view c.statement-item.result in
    let name = argument_in source in (
      name ∷ held.0,
      held_more tt c.loop-statement.names c.add.new.self held.0 name held.1
          (λ t. c.in_ok-add.ensures t ∙ ap (λ n. first_of (named c.loop-statement.names t) (cond (is_text n t) (Some tt) None)) c.argument_of-name.ensures),
      next_repeated (label_by source_view) c.args.statements.now c.loop-statement.statement-index c.statement-item.result held.0
          (seen c.loop-statement.told) _ _ c.is_some-is_repeated.result (omega arith) c.statement-item.is
          (c.is_some-is_repeated.ensures ∙ ap is_some c.get.ensures ∙ ap (λ n. is_some (named c.loop-statement.names n)) c.argument_of-name.ensures ∙ held.1 name)
          (c.least_when-told.ensures ∙ ap (λ b. least_from (seen c.loop-statement.told) (when c.is_some-is_repeated.result (break_view b ∷ []))) c.broken-repeated.ensures
          ∙ ap (λ (s : Source). least_from (seen c.loop-statement.told) (when c.is_some-is_repeated.result (broken 6 s.home (view s.statement.now).0.line))) c.label-source.ensures) held.2,
    )

pub returns : goal.returns
returns c =
    let held = c.loop-statement.invariant in
    all_repeated (label_by source_view) c.args.statements.now c.loop-statement.statement-index held.0 (seen c.loop-statement.told) _ (omega arith) held.2
