use Rattle.std.proofs.Common.{◌≡◌, [], Some, None, sym, ap, subst, ◌∙◌, refl}
use Rattle.yspec.specs.Results.{Fails}
use Rattle.yspec.specs.schema.Breaks.{first_broken, least_from}
use Rattle.yspec.specs.linking.Planned.{Plan}
use Rattle.yspec_wide.specs.Compiling.{compiled_in, plan_in, whole_plan}
use Rattle.yspec_wide.specs.Expansion.{augmented_in}
use Rattle.yspec_wide.specs.Sources.{sources_in}
use Rattle.ytext.specs.View.{modules_view}
use Rattle.ylink_features.specs.VersionView.{AreVersionsOf}
use Rattle.ylink_grammar.specs.LanguageView.{language_view}
use Rattle.ylink_standing.specs.StandingView.{IsOf}
use Rattle.ylink.specs.LinkedView as statements
use Rattle.ylink.specs.Told.{seen, told_by, break_view}
use Rattle.yschema_plan.specs.PlanView as plans
use Rattle.yschema_resolve.specs.Guarding.{TellsUnguarded}
use Rattle.yschema_resolve.specs.Standing.{TellsStanding}
use Rattle.yschema_resolve.proofs.CallerLemmas.{none_told, none_unguarded}
use Rattle.yschema.specs.Phases.{all_addition_breaks, expansion_part, plan_part}
use Rattle.yschema.proofs.PlaceLemmas.{places_in_core}
use Rattle.yschema.proofs.ToldLemmas.{all_stand, conditions_hold, in_plan, linking_passed, names_told}
use Rattle.yschema.proofs.building.compile_whole.Goals as goal

pub returns-in-Some : goal.returns-in-Some
returns-in-Some c =
    let l = language_view c.args.language.now in
    let s = statements.view c.args.linked.now in
    let f = modules_view c.args.modules.now in
    let passed = linking_passed l f s c.requires.links in
    let parts = (augmented_in l s).0 in
    let v = plans.view c.in_ok-plan.plan in
    let plan_is : v ≡ whole_plan l s = c.in_ok-plan.ensures parts c.requires.made ∙ ap (λ m. plans.plan_with m parts) c.sources.ensures in
    let whole_is : v ≡ whole_plan l (sources_in l f) = plan_is ∙ ap (whole_plan l) passed.1 in
    let none = subst (λ m. None ≡ first_broken (expansion_part l f m)) (sym (ap (λ (q : Plan). q.modules) plan_is)) c.requires.none in
    subst (λ fault. Fails (told_by fault) (compiled_in l f)) (sym c.from.ensures)
    (in_plan l f v (plan_in l (sources_in l f)) whole_is refl passed.0 (break_view c.in-Some.found)
    (names_told l f v (Some (break_view c.in-Some.found)) none (sym (ap seen c.in-Some.is) ∙ (c.broken_name_rule.ensures ∙ places_in_core l c.requires.core v))))

pub broken_addition_rule-requires : goal.broken_addition_rule-requires
broken_addition_rule-requires c =
    let l = language_view c.args.language.now in
    let s = statements.view c.args.linked.now in
    let parts = (augmented_in l s).0 in
    let v = plans.view c.in_ok-plan.plan in
    let plan_is : v ≡ whole_plan l s = c.in_ok-plan.ensures parts c.requires.made ∙ ap (λ m. plans.plan_with m parts) c.sources.ensures in
    subst (AreVersionsOf c.in_ok-versions.versions l) (c.sources-2.ensures ∙ sym (ap (λ (q : Plan). q.modules) plan_is)) c.in_ok-versions.ensures

pub of-requires-3-clause-on : goal.of-requires-3-clause-on
of-requires-3-clause-on c =
    let l = language_view c.args.language.now in
    let s = statements.view c.args.linked.now in
    let f = modules_view c.args.modules.now in
    let passed = linking_passed l f s c.requires.links in
    let parts = (augmented_in l s).0 in
    let v = plans.view c.in_ok-plan.plan in
    let plan_is : v ≡ whole_plan l s = c.in_ok-plan.ensures parts c.requires.made ∙ ap (λ m. plans.plan_with m parts) c.sources.ensures in
    subst (IsOf c.in_ok-features.features l) (c.sources-3.ensures ∙ sym (ap (λ (q : Plan). q.modules) plan_is))
    (c.in_ok-features.ensures (conditions_hold l f _ (c.sources-3.ensures ∙ passed.1) passed.0))

pub of-requires-3-clause-told : goal.of-requires-3-clause-told
of-requires-3-clause-told c =
    let l = language_view c.args.language.now in
    let v = plans.view c.in_ok-plan.plan in
    subst (λ k. TellsUnguarded [] k v) (sym c.requires.core) (none_unguarded v)

pub compile_rules-requires-clause-told : goal.compile_rules-requires-clause-told
compile_rules-requires-clause-told c =
    let l = language_view c.args.language.now in
    let s = statements.view c.args.linked.now in
    let f = modules_view c.args.modules.now in
    let passed = linking_passed l f s c.requires.links in
    let parts = (augmented_in l s).0 in
    let v = plans.view c.in_ok-plan.plan in
    let plan_is : v ≡ whole_plan l s = c.in_ok-plan.ensures parts c.requires.made ∙ ap (λ m. plans.plan_with m parts) c.sources.ensures in
    let whole_is : v ≡ whole_plan l (sources_in l f) = plan_is ∙ ap (whole_plan l) passed.1 in
    c.in_ok-added.ensures (subst (λ k. TellsStanding [] k v) (sym c.requires.core) (none_told v))
    ∙ ap (λ w. least_from None (all_addition_breaks l w)) whole_is

pub compile_rules-requires-clause-made : goal.compile_rules-requires-clause-made
compile_rules-requires-clause-made c =
    let l = language_view c.args.language.now in
    let s = statements.view c.args.linked.now in
    let f = modules_view c.args.modules.now in
    let passed = linking_passed l f s c.requires.links in
    let parts = (augmented_in l s).0 in
    let v = plans.view c.in_ok-plan.plan in
    let plan_is : v ≡ whole_plan l s = c.in_ok-plan.ensures parts c.requires.made ∙ ap (λ m. plans.plan_with m parts) c.sources.ensures in
    let whole_is : v ≡ whole_plan l (sources_in l f) = plan_is ∙ ap (whole_plan l) passed.1 in
    whole_is ∙ all_stand l c.requires.core (sources_in l f)

pub compile_rules-requires-clause-first : goal.compile_rules-requires-clause-first
compile_rules-requires-clause-first c =
    let l = language_view c.args.language.now in
    let s = statements.view c.args.linked.now in
    let f = modules_view c.args.modules.now in
    let passed = linking_passed l f s c.requires.links in
    passed.0

pub compile_rules-requires-clause-second : goal.compile_rules-requires-clause-second
compile_rules-requires-clause-second c =
    let l = language_view c.args.language.now in
    let s = statements.view c.args.linked.now in
    let f = modules_view c.args.modules.now in
    let passed = linking_passed l f s c.requires.links in
    let parts = (augmented_in l s).0 in
    let v = plans.view c.in_ok-plan.plan in
    let plan_is : v ≡ whole_plan l s = c.in_ok-plan.ensures parts c.requires.made ∙ ap (λ m. plans.plan_with m parts) c.sources.ensures in
    let whole_is : v ≡ whole_plan l (sources_in l f) = plan_is ∙ ap (whole_plan l) passed.1 in
    let none = subst (λ m. None ≡ first_broken (expansion_part l f m)) (sym (ap (λ (q : Plan). q.modules) plan_is)) c.requires.none in
    subst (λ w. None ≡ first_broken (plan_part l f w)) whole_is
    (names_told l f v None none (sym (ap seen c.in_default.is) ∙ (c.broken_name_rule.ensures ∙ places_in_core l c.requires.core v)))
