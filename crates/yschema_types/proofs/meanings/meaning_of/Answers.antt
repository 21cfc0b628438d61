use Rattle.std.proofs.Common.{Option, sym, ap, ◌∙◌}
use Rattle.std.specs.Prelude.{option_map, option_and_then}
use Rattle.yspec.specs.Forest.{Forest}
use Rattle.yspec.specs.linking.Keyword.{type_word}
use Rattle.yspec.specs.linking.Source.{Source}
use Rattle.ylink_grammar.specs.SourceView.{node_view}
use Rattle.yschema_plan.specs.PlannedView.{planned_view}
use Rattle.ylink_grammar.proofs.SourceLemmas.{first_found}
use Rattle.yschema_types.specs.MeaningsView.{means}
use Rattle.yschema_types.proofs.meanings.meaning_of.Goals as goal

pub returns-in-Some : goal.returns-in-Some
returns-in-Some c = λ number.
    let own = (planned_view number c.args.planned.now).part.own in
    c.meant.ensures
    ∙ (ap (means c.args.types) c.number.ensures
    ∙ ap (option_and_then (λ (x : Source). means c.args.types x.number))
    (ap (λ (o : Option (Source × Forest Source)). option_map (λ x. x.0) o) (ap (option_map node_view) (sym c.in-Some.is) ∙ c.first_own.ensures)
    ∙ first_found type_word own))

pub returns-in-None : goal.returns-in-None
returns-in-None c = λ number.
    let own = (planned_view number c.args.planned.now).part.own in
    ap (option_and_then (λ (x : Source). means c.args.types x.number))
    (ap (λ (o : Option (Source × Forest Source)). option_map (λ x. x.0) o) (ap (option_map node_view) (sym c.in-None.is) ∙ c.first_own.ensures)
    ∙ first_found type_word own)
