use Rattle.std.proofs.Common.{ap, ap₂, ◌∙◌}
use Rattle.yspec.specs.linking.Source.{argument_in}
use Rattle.yspec.specs.linking.SchemaNodes.{status_in}
use Rattle.yspec_wide.specs.Types.{kind_in}
use Rattle.ylink_grammar.specs.LanguageView.{language_view}
use Rattle.yschema_plan.specs.NodesView.{node_view}
use Rattle.yschema_plan.specs.PlanView.{view}
use Rattle.yschema_model.specs.Layout.{status_view, kind_view}
use Rattle.yschema.proofs.MakingLemmas.{node_by}
use Rattle.yschema.proofs.making.node_of.Goals as goal

pub returns : goal.returns
returns c =
    let n = c.args.node.number in
    let p = node_view c.args.node in
    let config = c.args.node.planned.config in
    let distinct = c.has_distinct_items.result in
    let language = language_view c.args.language.now in
    let plan = view c.args.plan.now in
    ap₂ (λ m t. node_by n m config distinct t (status_view c.status.result) (kind_view c.in_ok-kind_of.field-0))
    c.owner.ensures (c.in_ok-from_str.ensures.ok ∙ c.name.ensures)
    ∙ (ap₂ (node_by n p.part.owner config distinct (argument_in p.part.source)) (c.status.ensures n) c.in_ok-kind_of.ensures
    ∙ ap (λ d. node_by n p.part.owner config d (argument_in p.part.source) (status_in p) (kind_in language plan p))
    (c.has_distinct_items.ensures language plan n c.requires.of_plan))
