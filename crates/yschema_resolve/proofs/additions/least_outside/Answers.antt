use Rattle.std.proofs.Common.{[], cond, sym, ap, ◌∙◌}
use Rattle.yspec.specs.schema.Breaks.{least_from}
use Rattle.ylink_grammar.specs.BreakView.{seen}
use Rattle.ylink_grammar.specs.LanguageView.{language_view}
use Rattle.yschema_plan.specs.Needs.{stands_in}
use Rattle.yschema_plan.specs.NodesView.{node_view}
use Rattle.yschema_plan.specs.PlanView.{view}
use Rattle.yschema_resolve.specs.Standing.{addition_breaks_unless_let}
use Rattle.yschema_resolve.proofs.additions.least_outside.Goals as goal

pub returns-then-is_told : goal.returns-then-is_told
returns-then-is_told c =
    let others = addition_breaks_unless_let (language_view c.args.language.now) (stands_in c.args.standing.now) (view c.args.plan.now) (node_view c.args.node) in
    sym (ap (λ b. least_from (seen c.args.so_far) (cond b [] others)) (sym c.is_told.ensures ∙ c.if-is_told.true))

pub returns-else-is_told : goal.returns-else-is_told
returns-else-is_told c =
    let others = addition_breaks_unless_let (language_view c.args.language.now) (stands_in c.args.standing.now) (view c.args.plan.now) (node_view c.args.node) in
    c.least_unless_let.ensures ∙ sym (ap (λ b. least_from (seen c.args.so_far) (cond b [] others)) (sym c.is_told.ensures ∙ c.if-is_told.false))
