use Rattle.std.proofs.Common.{◌≡◌, map, [], Some, None, sym, ap, ap₂, ◌∙◌}
use Rattle.std.specs.Prelude.{option_map, unwrap_or}
use Rattle.yspec.specs.linking.Arguments.{absolute_path_of}
use Rattle.yspec.specs.linking.Augments.{target_steps}
use Rattle.yspec.specs.linking.Prefixes.{node_name}
use Rattle.yspec.specs.linking.Source.{argument_in}
use Rattle.ylink_arguments.specs.NameView.{names_view}
use Rattle.yschema_expand.specs.AugmentView as statements
use Rattle.yschema_plan.specs.PlanView as plans
use Rattle.yschema.specs.Added.{leads}
use Rattle.yschema.proofs.AddedLemmas.{leads_to_last}
use Rattle.yschema.proofs.augmenting.target_of.Goals as goal

pub returns-in-Some : goal.returns-in-Some
returns-in-Some c =
    let p = plans.view c.args.plan.now in
    let a = statements.augment_view c.args.statement in
    let path : Some (names_view c.in-Some.steps.items) ≡ absolute_path_of (argument_in a.source) =
    ap (option_map (λ q. names_view q.items)) (sym c.in-Some.is) ∙ (c.in_ok-steps.ensures ∙ ap absolute_path_of c.argument_of.ensures) in
    let steps = ap names_view c.as_slice.ensures.value ∙ ap (λ o. unwrap_or o []) path in
    c.target_along.ensures
    ∙ (ap₂ (λ h ns. leads p None (map (node_name p.modules h h) ns)) (ap (λ s. s.home) c.label.ensures) steps
    ∙ sym (leads_to_last p (target_steps p.modules a)))
