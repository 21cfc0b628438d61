use Rattle.std.proofs.Common.{[], sym, ap, ◌∙◌}
use Rattle.std.specs.Option.{option_map_or}
use Rattle.yspec.specs.schema.Breaks.{least_from, when}
use Rattle.yspec_wide.specs.Additions.{broken_unless_let}
use Rattle.ylink_grammar.specs.BreakView.{seen}
use Rattle.ylink_grammar.specs.LanguageView.{language_view}
use Rattle.yschema_plan.specs.Needs.{stands_in}
use Rattle.yschema_plan.specs.NodesView.{node_view}
use Rattle.yschema_plan.specs.PlanView.{view}
use Rattle.yschema_resolve.specs.Standing.{is_wrong_addition}
use Rattle.yschema_resolve.proofs.AdditionLemmas.{let_off, not_let}
use Rattle.yschema_resolve.proofs.additions.least_unless_let.Goals as goal

pub returns-then-not-is_wrong_addition : goal.returns-then-not-is_wrong_addition
returns-then-not-is_wrong_addition c =
    let plan = view c.args.plan.now in
    let told = option_map_or (broken_unless_let (language_view c.args.language.now) plan) (node_view c.args.node).part.added_by [] in
    sym (ap (λ b. least_from (seen c.args.so_far) (when b told)) (sym c.is_wrong_addition.ensures ∙ c.if-not-is_wrong_addition.true))

pub returns-then-is_let : goal.returns-then-is_let
returns-then-is_let c =
    let plan = view c.args.plan.now in
    let p = node_view c.args.node in
    let_off (language_view c.args.language.now) plan p.part.added_by (seen c.args.so_far) (is_wrong_addition (stands_in c.args.standing.now) plan p)
    (sym (c.is_let.ensures c.args.node.number) ∙ c.if-is_let.true)

pub returns-else-is_let : goal.returns-else-is_let
returns-else-is_let c =
    let plan = view c.args.plan.now in
    let p = node_view c.args.node in
    c.least_addition.ensures
    ∙ not_let (language_view c.args.language.now) plan p.part.added_by (seen c.args.so_far) (is_wrong_addition (stands_in c.args.standing.now) plan p)
    (sym (c.is_let.ensures c.args.node.number) ∙ c.if-is_let.false)
