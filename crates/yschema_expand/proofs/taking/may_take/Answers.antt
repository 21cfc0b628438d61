use Rattle.std.proofs.Common.{sym, ap, ◌∙◌}
use Rattle.ybase_preorder.specs.View.{row_by}
use Rattle.ybase_words.specs.KeywordView.{keyword_view}
use Rattle.ylink_grammar.specs.SourceView.{source_view}
use Rattle.yschema_expand.specs.Taking.{may_take}
use Rattle.yschema_expand.proofs.TakingLemmas.{as_in_no_choice}
use Rattle.yschema_expand.proofs.taking.may_take.Goals as goal

pub returns-in-Choice : goal.returns-in-Choice
returns-in-Choice c = c.choice_takes.ensures
    ∙ ap (λ k. may_take c.args.old (keyword_view k) (row_by source_view c.args.statements)) (sym c.in-Choice.is)

pub returns-in-Container : goal.returns-in-Container
returns-in-Container c = (c.node_takes.ensures ∙ as_in_no_choice c.args.old _)
    ∙ ap (λ k. may_take c.args.old (keyword_view k) (row_by source_view c.args.statements)) (sym c.in-Container.is)

pub returns-in-List : goal.returns-in-List
returns-in-List c = (c.node_takes-in-List.ensures ∙ as_in_no_choice c.args.old _)
    ∙ ap (λ k. may_take c.args.old (keyword_view k) (row_by source_view c.args.statements)) (sym c.in-List.is)

pub returns-in-Case : goal.returns-in-Case
returns-in-Case c = (c.node_takes-in-Case.ensures ∙ as_in_no_choice c.args.old _)
    ∙ ap (λ k. may_take c.args.old (keyword_view k) (row_by source_view c.args.statements)) (sym c.in-Case.is)
