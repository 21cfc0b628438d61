use Rattle.std.proofs.Common.{Bool, false, cond, ◌&&◌, is_some, sym, ap, ◌∙◌}
use Rattle.std.specs.List.{list_all}
use Rattle.std.proofs.lemmas.Result.{IfOk-weaker}
use Rattle.yspec.specs.Forest.{Forest, row}
use Rattle.yspec.specs.linking.Keyword.{default_word}
use Rattle.yspec.specs.linking.Source.{Source, first_with}
use Rattle.yspec.specs.linking.Parts.{Part}
use Rattle.yspec_wide.specs.Language.{Language}
use Rattle.yspec_wide.specs.Sources.{is_anything}
use Rattle.yspec_wide.specs.Expansion.{is_borne_in, is_remark}
use Rattle.ybase_preorder.specs.View.{row_by}
use Rattle.ylink_grammar.specs.LanguageView.{language_view}
use Rattle.ylink_grammar.specs.SourceView.{source_view}
use Rattle.yschema_expand.specs.NodeView.{part_view}
use Rattle.yschema_expand.proofs.refining.node_bears.Goals as goal

-- what else a node may bear
abbrev bears_others : Language → Part → Forest Source → Bool
bears_others l p given = cond (is_anything l p.source && is_some (first_with default_word given)) false
    (list_all (is_borne_in l p.source.keyword given) (row given))

pub returns-then-is_operation_part : goal.returns-then-is_operation_part
returns-then-is_operation_part c =
    let given = row_by source_view c.args.given in
    let others = bears_others (language_view c.args.language.now) (part_view c.args.node.now) given in
    c.are_remarks.ensures ∙ sym (ap (λ b. cond b (list_all is_remark (row given)) others) (sym c.is_operation_part.ensures ∙ c.if-is_operation_part.true))

pub returns-then-is_default_of_anything : goal.returns-then-is_default_of_anything
returns-then-is_default_of_anything c =
    let l = language_view c.args.language.now in
    let p = part_view c.args.node.now in
    let given = row_by source_view c.args.given in
    sym (ap (λ b. cond b (list_all is_remark (row given)) (bears_others l p given)) (sym c.is_operation_part.ensures ∙ c.if-is_operation_part.false)
    ∙ ap (λ b. cond b false (list_all (is_borne_in l p.source.keyword given) (row given))) (sym c.is_default_of_anything.ensures ∙ c.if-is_default_of_anything.true))

pub returns-else-is_default_of_anything : goal.returns-else-is_default_of_anything
returns-else-is_default_of_anything c =
    let l = language_view c.args.language.now in
    let p = part_view c.args.node.now in
    let given = row_by source_view c.args.given in
    IfOk-weaker c.may_bear_in.result _ _ (λ may e. e ∙ (ap (λ k. list_all (is_borne_in l k given) (row given)) c.keyword.ensures
    ∙ sym (ap (λ b. cond b (list_all is_remark (row given)) (bears_others l p given)) (sym c.is_operation_part.ensures ∙ c.if-is_operation_part.false)
    ∙ ap (λ b. cond b false (list_all (is_borne_in l p.source.keyword given) (row given))) (sym c.is_default_of_anything.ensures ∙ c.if-is_default_of_anything.false)))) c.may_bear_in.ensures
