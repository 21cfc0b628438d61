use Rattle.std.proofs.Common.{◌≡◌, sym, ap, ◌∙◌, Some, None}
use Rattle.std.specs.List.{flat_map}
use Rattle.yspec.specs.schema.Breaks.{least_from, limit_breaks}
use Rattle.yspec.specs.linking.Compiling as spec
use Rattle.yspec.specs.linking.Planned.{nodes_of}
use Rattle.yspec_wide.specs.Compiling.{node_breaks_in, own_breaks_in, is_too_deep_in}
use Rattle.ytext.specs.View.{modules_view}
use Rattle.ylink_grammar.specs.LanguageView.{language_view}
use Rattle.ylink.specs.Told.{break_view, seen}
use Rattle.ylink.proofs.PhaseLemmas.{told_here, told_later, told_last}
use Rattle.yschema_plan.specs.PlanView as plans
use Rattle.yschema_resolve.proofs.CallerLemmas.{least_of_phase}
use Rattle.yschema.specs.Phases.{all_addition_breaks}
use Rattle.yschema.proofs.building.broken_rule.Goals as goal

pub returns-in-Some : goal.returns-in-Some
returns-in-Some c = λ whole added.
    let l = language_view c.args.language.now in
    let p = plans.view c.args.plan.now in
    let f = modules_view c.args.modules.now in
    told_here (node_breaks_in l whole p) _ (break_view c.in-Some.found)
    (sym (ap seen c.in-Some.is) ∙ least_of_phase (flat_map (own_breaks_in l p) (nodes_of p)) (all_addition_breaks l whole) _ (c.in_ok-told.ensures ∙ ap (λ t. least_from t (flat_map (own_breaks_in l p) (nodes_of p))) added))

pub returns : goal.returns
returns c = λ whole added.
    let l = language_view c.args.language.now in
    let p = plans.view c.args.plan.now in
    let f = modules_view c.args.modules.now in
    let deep = limit_breaks (is_too_deep_in l p) f in
    let none : None ≡ _ = sym (ap seen c.in_default.is) ∙ least_of_phase (flat_map (own_breaks_in l p) (nodes_of p)) (all_addition_breaks l whole) _ (c.in_ok-told.ensures ∙ ap (λ t. least_from t (flat_map (own_breaks_in l p) (nodes_of p))) added) in
    c.at_last.ensures ∙ (ap (λ b. least_from None (limit_breaks b f)) c.is_too_deep_in.ensures
    ∙ (sym (told_last deep) ∙ sym (told_later (node_breaks_in l whole p) _ none)))
