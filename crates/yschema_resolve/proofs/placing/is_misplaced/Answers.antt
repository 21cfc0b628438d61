use Rattle.std.proofs.Common.{◌≡◌, ◌||◌, Bool, not, Some, None, sym, ap, ◌∙◌}
use Rattle.std.specs.Prelude.{option_map, option_and_then}
use Rattle.std.specs.Option.{option_map_or}
use Rattle.yspec.specs.linking.Planned.{Planned, is_data, node_of}
use Rattle.yspec_wide.specs.Sources.{is_added}
use Rattle.yspec_wide.specs.Words.{action_word}
use Rattle.ylink_grammar.specs.LanguageView.{language_view}
use Rattle.yschema_plan.specs.NodesView.{node_view}
use Rattle.yschema_plan.specs.PlannedView.{part_at}
use Rattle.yschema_plan.specs.PlanView.{view}
use Rattle.yschema_resolve.specs.Standing.{is_told_of}
use Rattle.yschema_resolve.proofs.placing.is_misplaced.Goals as goal

pub returns-in-Some : goal.returns-in-Some
returns-in-Some c = λ number.
    let test : Planned → Bool = λ above. not (is_data above) || is_told_of c.args.barred.now above in
    let other = is_added (language_view c.args.language.now) action_word (part_at c.args.planned.now).source in
    c.is_barred_by.ensures ∙ ap (λ o. option_map_or test o other) (ap (option_map node_view) (sym c.in-Some.is) ∙ c.node_above.ensures number)

pub returns-in-None : goal.returns-in-None
returns-in-None c = λ number.
    let test : Planned → Bool = λ above. not (is_data above) || is_told_of c.args.barred.now above in
    let other = is_added (language_view c.args.language.now) action_word (part_at c.args.planned.now).source in
    c.is_action.ensures ∙ ap (λ o. option_map_or test o other) (ap (option_map node_view) (sym c.in-None.is) ∙ c.node_above.ensures number)
