use Rattle.std.proofs.Common.{map, ap, ◌∙◌}
use Rattle.std.specs.List.{filter_map}
use Rattle.std.proofs.lemmas.Result.{IfOk-weaker}
use Rattle.yspec.specs.linking.SchemaNodes.{value_stated}
use Rattle.ylink_grammar.specs.SourceView.{stated_view}
use Rattle.yschema_resolve.proofs.DefaultLemmas.{same_values}
use Rattle.yschema_resolve.proofs.defaults.default_values.Goals as goal

pub returns : goal.returns
returns c = λ language plan number of_plan.
    let type = c.args.value_type.now in
    IfOk-weaker c.values_of.result _ _ (λ values so. so ∙ (same_values c.args.resolved.now.modules plan of_plan.modules type _
    ∙ ap (filter_map (value_stated plan type))
    (ap (map stated_view) c.deref.ensures.value ∙ c.in_ok-texts.ensures language plan number of_plan))) c.values_of.ensures
