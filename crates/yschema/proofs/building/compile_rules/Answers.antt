use Rattle.std.proofs.Common.{Ok, refl, sym, ap, subst, ◌∙◌}
use Rattle.yspec.specs.Results.{Fails}
use Rattle.yspec_wide.specs.Compiling.{compiled_in, schema_of_plan_in, whole_plan}
use Rattle.yspec_wide.specs.Sources.{sources_in}
use Rattle.yspec_wide_fit.proofs.FitLemmas.{fit_in}
use Rattle.ytext.specs.View.{modules_view}
use Rattle.ylink_grammar.specs.LanguageView.{language_view}
use Rattle.ylink.specs.Told.{seen, told_by, break_view}
use Rattle.yschema_plan.specs.PlanView as plans
use Rattle.yschema.proofs.ToldLemmas.{refused_in_rules, is_made}
use Rattle.yschema.proofs.building.compile_rules.Goals as goal

pub returns-in-Some : goal.returns-in-Some
returns-in-Some c =
    let l = language_view c.args.language.now in
    let f = modules_view c.args.modules.now in
    let whole = whole_plan l (sources_in l f) in
    subst (λ fault. Fails (told_by fault) (compiled_in l f)) (sym c.from.ensures)
    (refused_in_rules l f whole (plans.view c.args.plan.now) refl c.requires.made c.requires.first c.requires.second
    (break_view c.in-Some.found) (sym (ap seen c.in-Some.is) ∙ c.in_ok-found.ensures whole c.requires.told))

pub build-requires-clause-fit : goal.build-requires-clause-fit
build-requires-clause-fit c =
    let l = language_view c.args.language.now in
    let f = modules_view c.args.modules.now in
    let p = plans.view c.args.plan.now in
    let whole = whole_plan l (sources_in l f) in
    fit_in l f (schema_of_plan_in l p) (is_made l f whole p refl c.requires.made c.requires.first c.requires.second
    (sym (ap seen c.in_default.is) ∙ c.in_ok-found.ensures whole c.requires.told))

pub returns : goal.returns
returns c =
    let l = language_view c.args.language.now in
    let f = modules_view c.args.modules.now in
    let whole = whole_plan l (sources_in l f) in
    is_made l f whole (plans.view c.args.plan.now) refl c.requires.made c.requires.first c.requires.second
    (sym (ap seen c.in_default.is) ∙ c.in_ok-found.ensures whole c.requires.told) ∙ ap Ok (sym c.in_ok-build.ensures)
