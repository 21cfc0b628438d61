use Rattle.std.proofs.Common.{ap, ap₂, ◌∙◌}
use Rattle.std.specs.Prelude.{unwrap_or, option_map}
use Rattle.yspec.specs.types.Types.{string_type}
use Rattle.yspec.specs.linking.Planned.{target_of, targets_of}
use Rattle.yspec.specs.linking.SchemaNodes.{number_in, type_name}
use Rattle.yspec_wide.specs.Types.{form_name, meant_in_of, standing_names, standing_type}
use Rattle.ylink_grammar.specs.LanguageView.{language_view}
use Rattle.yschema_plan.specs.NodesView.{node_view}
use Rattle.yschema_plan.specs.PlanView.{view}
use Rattle.yschema_model.specs.Layout.{form_view, targets_view, type_name_view}
use Rattle.yschema.proofs.MakingLemmas.{leaf_type_by}
use Rattle.yschema.proofs.making.leaf_type_of.Goals as goal

pub returns : goal.returns
returns c =
    let plan = view c.args.plan.now in
    let p = node_view c.args.node in
    let type = c.value_type.ensures (language_view c.args.language.now) plan p c.requires.of_plan c.requires.stands in
    let target = c.target.ensures (language_view c.args.language.now) plan p c.requires.of_plan c.requires.stands in
    let targets = c.member_targets.ensures (language_view c.args.language.now) plan p c.requires.of_plan c.requires.stands in
    let form = c.form_of-form.ensures c.args.node.number in
    ap₂ (λ t to. leaf_type_by (form_view c.form_of-form.result) (type_name_view c.in_ok-name.name) t to (targets_view c.in_ok-targets.targets.items))
    (c.in_ok-value_type.ensures ∙ ap (λ t. unwrap_or t string_type) type) (c.id_of.ensures ∙ target)
    ∙ (ap₂ (λ n ts. leaf_type_by (form_view c.form_of-form.result) n (unwrap_or (standing_type (language_view c.args.language.now) plan p) string_type) (option_map number_in (target_of plan p)) ts)
    (c.in_ok-name.ensures ∙ ap (form_name (form_view c.form_of-form.result)) (c.type_name.ensures c.args.node.number)) (ap targets_view c.in_ok-targets.ensures.items ∙ targets)
    ∙ ap (λ f. leaf_type_by f (form_name f (type_name p)) (unwrap_or (standing_type (language_view c.args.language.now) plan p) string_type) (option_map number_in (target_of plan p))
    (targets_of plan (standing_type (language_view c.args.language.now) plan) p (meant_in_of (standing_names (language_view c.args.language.now) plan.modules) plan p))) form)
