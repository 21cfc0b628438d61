use Rattle.std.proofs.Common.{[], sym, ap, ◌∙◌}
use Rattle.std.specs.Prelude.{option_map}
use Rattle.std.specs.Option.{option_map_or}
use Rattle.yspec.specs.schema.Breaks.{least_from, when}
use Rattle.yspec.specs.linking.NodeBreaks.{broken_at}
use Rattle.ylink_grammar.specs.BreakView.{seen}
use Rattle.yschema_plan.specs.NodesView.{node_view}
use Rattle.yschema_resolve.proofs.AdditionLemmas.{nothing_told}
use Rattle.yschema_resolve.proofs.unfit_keys.least_above.Goals as goal

pub returns-in-Some : goal.returns-in-Some
returns-in-Some c = λ number.
    let start = seen c.args.so_far in
    c.least_when.ensures ∙ ap (λ bs. least_from start (when c.args.unfit bs)) (c.broken.ensures c.in-Some.list.number
    ∙ ap (λ o. option_map_or (broken_at 12) o []) (ap (option_map node_view) (sym c.in-Some.is) ∙ c.node_above.ensures number))

pub returns-in-None : goal.returns-in-None
returns-in-None c = λ number.
    let start = seen c.args.so_far in
    nothing_told start c.args.unfit ∙ ap (λ o. least_from start (when c.args.unfit (option_map_or (broken_at 12) o [])))
    (ap (option_map node_view) (sym c.in-None.is) ∙ c.node_above.ensures number)
