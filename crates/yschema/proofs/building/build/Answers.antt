use Rattle.std.proofs.Common.{◌≡◌, IfOk, None, sym, subst, ap₂}
use Rattle.yspec_fit.specs.Fit.{IsFit}
use Rattle.yspec_wide.specs.Types.{schema_nodes_in}
use Rattle.ybase_index.specs.Names.{AreNamesOf}
use Rattle.ylink_grammar.specs.LanguageView.{language_view}
use Rattle.yschema_plan.specs.PlanView as plans
use Rattle.yschema_model.specs.View.{view}
use Rattle.yschema_model.proofs.LayoutLemmas.{forest_of-laid, laid_as}
use Rattle.yschema.proofs.building.build.Goals as goal

pub of-requires-clause-laid_out : goal.of-requires-clause-laid_out
of-requires-clause-laid_out c =
    laid_as (schema_nodes_in (language_view c.args.language.now) (plans.view c.args.plan.now)) c.in_ok-rows.rows.items c.in_ok-rows.ensures.laid

pub of-requires-clause-named : goal.of-requires-clause-named
of-requires-clause-named c = subst (AreNamesOf c.in_ok-names.names) (sym c.in_ok-rows.ensures.names) c.in_ok-names.ensures

pub of-requires-clause-fit : goal.of-requires-clause-fit
of-requires-clause-fit c =
    let nodes = schema_nodes_in (language_view c.args.language.now) (plans.view c.args.plan.now) in
    subst IsFit (sym (ap₂ (λ set nodes. record { modules = set; nodes = nodes })
    c.in_ok-modules.ensures (forest_of-laid nodes None 0 c.in_ok-rows.rows.items c.in_ok-rows.ensures.laid))) c.requires.fit

pub returns : goal.returns
returns c =
    let nodes = schema_nodes_in (language_view c.args.language.now) (plans.view c.args.plan.now) in
    subst (λ whole. IfOk c.of.result (λ schema. view schema ≡ whole))
    (ap₂ (λ set nodes. record { modules = set; nodes = nodes })
    c.in_ok-modules.ensures (forest_of-laid nodes None 0 c.in_ok-rows.rows.items c.in_ok-rows.ensures.laid))
    c.of.ensures
