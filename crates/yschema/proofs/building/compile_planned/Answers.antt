use Rattle.std.proofs.Common.{◌≡◌, None, true, sym, ap, subst, ◌∙◌}
use Rattle.yspec.specs.linking.Planned.{Plan}
use Rattle.yspec_wide.specs.Compiling.{plan_in}
use Rattle.yspec_wide.specs.Expansion.{augmented_in}
use Rattle.yspec_wide.specs.Standing.{standing}
use Rattle.ytext.specs.View.{modules_view}
use Rattle.ybase_preorder.specs.Layout.{places}
use Rattle.ylink_grammar.specs.LanguageView.{language_view}
use Rattle.ylink_grammar.specs.LinkView.{view}
use Rattle.ylink_standing.specs.StandingView.{IsOf}
use Rattle.ylink.specs.LinkedView as statements
use Rattle.yschema_given.specs.Keeping.{are_kept_right}
use Rattle.yschema_expand.specs.TableView.{parts_in}
use Rattle.yschema_plan.specs.PlanView as plans
use Rattle.yschema_resolve.specs.Guarding.{TellsUnguarded}
use Rattle.yschema_resolve.proofs.CallerLemmas.{unguarded_told}
use Rattle.yschema.proofs.ToldLemmas.{linking_passed}
use Rattle.yschema.proofs.building.compile_planned.Goals as goal

pub of-requires-2-clause-on : goal.of-requires-2-clause-on
of-requires-2-clause-on c =
    let l = language_view c.args.language.now in
    let s = statements.view c.args.linked.now in
    let parts = standing l s (augmented_in l s).0 in
    let plan_is : plans.view c.in_ok-plan.plan ≡ plan_in l s = c.in_ok-plan.ensures parts c.requires.made ∙ ap (λ m. plans.plan_with m parts) c.sources.ensures in
    subst (IsOf c.args.features.now l) (sym (ap (λ (q : Plan). q.modules) plan_is)) c.requires.on

pub of-requires-2-clause-told : goal.of-requires-2-clause-told
of-requires-2-clause-told c =
    let l = language_view c.args.language.now in
    let s = statements.view c.args.linked.now in
    let parts = standing l s (augmented_in l s).0 in
    let v = plans.view c.in_ok-plan.plan in
    let plan_is : v ≡ plan_in l s = c.in_ok-plan.ensures parts c.requires.made ∙ ap (λ m. plans.plan_with m parts) c.sources.ensures in
    let same = sym c.sources-2.ensures in
    let m = view c.sources-2.result.now in
    let unguarded = c.in_ok-unguarded.unguarded.items in
    let told = c.in_ok-unguarded.ensures (subst (λ x. are_kept_right l x ≡ true) same c.requires.kept)
    (subst (λ x. parts_in c.args.nodes.now ≡ places None 0 (standing l x (augmented_in l x).0)) same c.requires.made) in
    let tells : TellsUnguarded unguarded l (plans.plan_with m (standing l m (augmented_in l m).0)) =
    unguarded_told unguarded l m (standing l m (augmented_in l m).0) told in
    let here : TellsUnguarded unguarded l v = subst (TellsUnguarded unguarded l)
    (ap (λ x. plans.plan_with x (standing l x (augmented_in l x).0)) (sym same) ∙ sym plan_is) tells in
    subst (λ bs. TellsUnguarded bs l v) (sym c.as_slice.ensures.value) here

pub compile_rules-requires-clause-made : goal.compile_rules-requires-clause-made
compile_rules-requires-clause-made c =
    let l = language_view c.args.language.now in
    let s = statements.view c.args.linked.now in
    let f = modules_view c.args.modules.now in
    let passed = linking_passed l f s c.requires.links in
    let parts = standing l s (augmented_in l s).0 in
    let plan_is : plans.view c.in_ok-plan.plan ≡ plan_in l s = c.in_ok-plan.ensures parts c.requires.made ∙ ap (λ m. plans.plan_with m parts) c.sources.ensures in
    plan_is ∙ ap (plan_in l) passed.1

pub compile_rules-requires-clause-first : goal.compile_rules-requires-clause-first
compile_rules-requires-clause-first c =
    let l = language_view c.args.language.now in
    let s = statements.view c.args.linked.now in
    let f = modules_view c.args.modules.now in
    let passed = linking_passed l f s c.requires.links in
    passed.0
