use Rattle.std.proofs.Common.{◌≡◌, cond, false, sym, ap, ◌∙◌}
use Rattle.std.proofs.lemmas.Result.{IfOk-weaker}
use Rattle.std.specs.Option.{option_map_or}
use Rattle.yspec.specs.linking.Planned.{meant_in}
use Rattle.yspec_wide.specs.Language.{is_yang_1, version_of}
use Rattle.yspec_wide.specs.VersionBreaks.{bears_itself, is_empty_meant, is_of_yang_1}
use Rattle.ylink_grammar.specs.LanguageView.{language_view}
use Rattle.yschema_plan.specs.NodesView.{node_view}
use Rattle.yschema_plan.specs.PlanView.{view}
use Rattle.yschema_resolve.proofs.unfit_keys.is_unfit.Goals as goal
use Rattle.yschema_resolve.proofs.unfit_keys.is_unfit.Goals.{After-is_yang_1}

first : (c : After-is_yang_1) → c.is_yang_1.result
    ≡ is_of_yang_1 (language_view c.args.language.now) (view c.args.plan.now).modules (node_view c.args.node).part.source
first c =
    let l = language_view c.args.language.now in
    let modules = (view c.args.plan.now).modules in
    c.is_yang_1.ensures l modules c.requires.of_plan.versions ∙ ap (λ home. is_yang_1 (version_of l modules home)) c.home.ensures

pub returns-then-is_yang_1 : goal.returns-then-is_yang_1
returns-then-is_yang_1 c =
    let l = language_view c.args.language.now in
    let plan = view c.args.plan.now in
    let p = node_view c.args.node in
    IfOk-weaker c.is_empty_at.result _ _ (λ b e. e ∙ ap (λ y. cond y (option_map_or is_empty_meant (meant_in plan p) false) (bears_itself l plan p))
    (sym c.if-is_yang_1.true ∙ first (goal.at.returns-then-is_yang_1 c).After-is_yang_1))
    (c.is_empty_at.ensures plan p c.requires.of_plan.meant c.requires.stands)

pub returns-else-is_yang_1 : goal.returns-else-is_yang_1
returns-else-is_yang_1 c =
    let l = language_view c.args.language.now in
    let plan = view c.args.plan.now in
    let p = node_view c.args.node in
    c.bears_itself.ensures c.args.node.number
    ∙ ap (λ y. cond y (option_map_or is_empty_meant (meant_in plan p) false) (bears_itself l plan p))
    (sym c.if-is_yang_1.false ∙ first (goal.at.returns-else-is_yang_1 c).After-is_yang_1)
