use Rattle.std.proofs.Common.{◌&&◌, sym, ap, ◌∙◌}
use Rattle.yspec.specs.linking.Keyword.{leaf_word, same_keyword}
use Rattle.yspec.specs.linking.SchemaNodes.{is_key}
use Rattle.ylink_grammar.specs.LanguageView.{language_view}
use Rattle.yschema_plan.specs.NodesView.{node_view}
use Rattle.yschema_plan.specs.PlanView.{view}
use Rattle.yschema_resolve.proofs.unfit_keys.is_key_leaf.Goals as goal

pub returns-then-is : goal.returns-then-is
returns-then-is c =
    let plan = view c.args.plan.now in
    let p = node_view c.args.node in
    c.is_key.ensures (language_view c.args.language.now) plan p c.requires.of_plan c.requires.stands
    ∙ ap (λ b. b && is_key plan p) (sym c.if-is.true ∙ (c.is.ensures ∙ ap (same_keyword leaf_word) c.keyword.ensures))
