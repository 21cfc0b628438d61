use Rattle.std.proofs.Common.{◌≡◌, None, true, sym, ap, subst, ◌∙◌}
use Rattle.yspec.specs.schema.Breaks.{least_from}
use Rattle.yspec.specs.linking.Planned.{Plan}
use Rattle.yspec_wide.specs.Compiling.{place_phase_in, whole_plan}
use Rattle.yspec_wide.specs.Expansion.{augmented_in}
use Rattle.ybase_preorder.specs.Layout.{places}
use Rattle.ylink_features.specs.VersionView.{AreVersionsOf}
use Rattle.ylink_grammar.specs.LanguageView.{language_view}
use Rattle.ylink_grammar.specs.LinkView.{view}
use Rattle.ylink_standing.specs.StandingView.{IsOf}
use Rattle.ylink.specs.LinkedView as statements
use Rattle.ylink.specs.Told.{seen}
use Rattle.yschema_given.specs.Keeping.{are_kept_right}
use Rattle.yschema_expand.specs.TableView.{parts_in}
use Rattle.yschema_plan.specs.PlanView as plans
use Rattle.yschema_resolve.specs.Standing.{TellsStanding}
use Rattle.yschema_resolve.proofs.CallerLemmas.{parts_told}
use Rattle.yschema.specs.Phases.{all_addition_breaks}
use Rattle.yschema.proofs.PlaceLemmas.{places_told}
use Rattle.yschema.proofs.building.judged_whole.Goals as goal

pub returns-in-Some : goal.returns-in-Some
returns-in-Some c =
    let l = language_view c.args.language.now in
    let s = statements.view c.args.linked.now in
    let parts = (augmented_in l s).0 in
    let plan_is : plans.view c.in_ok-whole.whole ≡ whole_plan l s = c.in_ok-whole.ensures parts c.requires.made ∙ ap (λ m. plans.plan_with m parts) c.sources.ensures in
    sym (ap seen c.in-Some.is) ∙ (places_told l (plans.view c.in_ok-whole.whole) (seen c.broken_name_rule-named.result) (seen c.in_ok-told.told)
    c.broken_name_rule-named.ensures c.in_ok-told.ensures ∙ ap (λ w. least_from None (place_phase_in l w)) plan_is)

pub broken_addition_rule-requires : goal.broken_addition_rule-requires
broken_addition_rule-requires c =
    let l = language_view c.args.language.now in
    let s = statements.view c.args.linked.now in
    let parts = (augmented_in l s).0 in
    let plan_is : plans.view c.in_ok-whole.whole ≡ whole_plan l s = c.in_ok-whole.ensures parts c.requires.made ∙ ap (λ m. plans.plan_with m parts) c.sources.ensures in
    subst (AreVersionsOf c.in_ok-versions.versions l) (c.sources-3.ensures ∙ sym (ap (λ (q : Plan). q.modules) plan_is)) c.in_ok-versions.ensures

pub returns : goal.returns
returns c =
    let l = language_view c.args.language.now in
    let s = statements.view c.args.linked.now in
    let parts = (augmented_in l s).0 in
    let v = plans.view c.in_ok-whole.whole in
    let plan_is : v ≡ whole_plan l s = c.in_ok-whole.ensures parts c.requires.made ∙ ap (λ m. plans.plan_with m parts) c.sources.ensures in
    let same = sym c.sources-2.ensures in
    let m = view c.sources-2.result.now in
    let told = c.in_ok-standing.ensures (subst (IsOf c.args.features.now l) same c.requires.on) (subst (λ x. are_kept_right l x ≡ true) same c.requires.kept)
    (subst (λ x. parts_in c.args.nodes.now ≡ places None 0 (augmented_in l x).0) same c.requires.made) in
    let tells : TellsStanding c.in_ok-standing.standing.items l (plans.plan_with m (augmented_in l m).0) = parts_told c.in_ok-standing.standing.items l m (augmented_in l m).0 told in
    let here : TellsStanding c.in_ok-standing.standing.items l v = subst (TellsStanding c.in_ok-standing.standing.items l)
    (ap (λ x. plans.plan_with x (augmented_in l x).0) (sym same) ∙ sym plan_is) tells in (
      sym (ap seen c.in_default.is) ∙ (places_told l v (seen c.broken_name_rule-named.result) (seen c.in_ok-told.told)
          c.broken_name_rule-named.ensures c.in_ok-told.ensures ∙ ap (λ w. least_from None (place_phase_in l w)) plan_is),
      c.in_ok-added.ensures (subst (λ xs. TellsStanding xs l v) (sym c.as_slice.ensures.value) here) ∙ ap (λ w. least_from None (all_addition_breaks l w)) plan_is,
    )
