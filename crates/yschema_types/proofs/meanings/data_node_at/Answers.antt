use Rattle.std.proofs.Common.{◌+◌, List, map, drop, sym, ap, ap₂, ◌∙◌}
use Rattle.std.specs.Prelude.{option_map}
use Rattle.std.proofs.lemmas.List.{at_drop_more}
use Rattle.yspec.specs.linking.Prefixes.{node_name}
use Rattle.yspec.specs.linking.Planned as spec
use Rattle.ylink_arguments.specs.NameView.{names_view}
use Rattle.ylink_arguments.specs.declared.name.Name.{Name}
use Rattle.yschema_plan.specs.NodesView.{node_view}
use Rattle.yschema_plan.specs.PlanView.{view}
use Rattle.yschema_types.proofs.MeaningLemmas.{onwards, one_step, no_step}
use Rattle.yschema_types.proofs.meanings.data_node_at.Goals as goal

pub loop-step-preserved : goal.loop-step-preserved
loop-step-preserved c =
    let p = view c.args.plan.now in
    let found = option_map node_view c.loop-step.found in
    let steps = c.args.steps.now in
    let i = c.loop-step.step-index in
    let named = node_name p.modules c.args.home c.args.owner in
    sym (at_drop_more (λ (ns : List Name). onwards p found (map named (names_view ns))) steps i _ c.loop-step-test.true
    ∙ one_step p found (node_view c.in_ok-data_child_called.field-0) _ (map named (names_view (drop (i + 1) steps)))
    (ap (option_map node_view) (sym c.in_ok-data_child_called.was) ∙ (c.data_child_called.ensures
    ∙ ap₂ (λ scope name. spec.data_child_called p scope name) c.number_of.ensures c.node_name-name.ensures)))
    ∙ c.loop-step.invariant

pub returns-in_err-data_child_called : goal.returns-in_err-data_child_called
returns-in_err-data_child_called c =
    let p = view c.args.plan.now in
    let found = option_map node_view c.loop-step.found in
    let steps = c.args.steps.now in
    let i = c.loop-step.step-index in
    let named = node_name p.modules c.args.home c.args.owner in
    ap (option_map node_view) c.from_residual.ensures
    ∙ (sym (at_drop_more (λ (ns : List Name). onwards p found (map named (names_view ns))) steps i _ c.loop-step-test.true
    ∙ no_step p found _ (map named (names_view (drop (i + 1) steps)))
    (ap (option_map node_view) (sym c.in_err-data_child_called.was) ∙ (c.data_child_called.ensures
    ∙ ap₂ (λ scope name. spec.data_child_called p scope name) c.number_of.ensures c.node_name-name.ensures)))
    ∙ c.loop-step.invariant)
