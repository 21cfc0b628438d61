use Rattle.std.proofs.Common.{◌≡◌, ℕ, true, false, Some, None, option_map, arith, sym, ap, ◌∙◌}
use Rattle.yschema_plan.specs.NodesView.{node_view}
use Rattle.yschema_plan.specs.PlanView.{view}
use Rattle.yschema_resolve.specs.Guarding.{is_guarded_by}
use Rattle.yschema_resolve.proofs.GuardLemmas.{next_step, no_step, own_step}
use Rattle.yschema_resolve.proofs.guarding.+is_guarded_within.Goals as goal

pub returns-then-steps-eq0 : goal.returns-then-steps-eq0
returns-then-steps-eq0 t c =
    let unguarded = c.args.unguarded.now in
    let plan = view c.args.plan.now in
    let p = node_view c.args.node in
    let ended : c.args.steps ≡ 0 = omega (arith, c.if-steps-eq0.true) in
    sym (ap (λ (n : ℕ). is_guarded_by unguarded plan n p) ended ∙ no_step unguarded plan p)

pub returns-then-not-is_unguarded : goal.returns-then-not-is_unguarded
returns-then-not-is_unguarded t c =
    own_step c.args.unguarded.now (view c.args.plan.now) c.args.steps (node_view c.args.node) (omega (arith, c.if-steps-eq0.false))
    (sym c.is_unguarded.ensures ∙ c.if-not-is_unguarded.true)

pub returns-in-Some : goal.returns-in-Some
returns-in-Some t c =
    let p = node_view c.args.node in
    c.is_guarded_within.ensures
    ∙ next_step c.args.unguarded.now (view c.args.plan.now) c.args.steps p (Some (node_view c.in-Some.above)) (omega (arith, c.if-steps-eq0.false))
    (sym c.is_unguarded.ensures ∙ c.if-not-is_unguarded.false) (ap (option_map node_view) (sym c.in-Some.is) ∙ c.node_above.ensures c.args.node.number)

pub returns-in-None : goal.returns-in-None
returns-in-None t c =
    let p = node_view c.args.node in
    next_step c.args.unguarded.now (view c.args.plan.now) c.args.steps p None (omega (arith, c.if-steps-eq0.false))
    (sym c.is_unguarded.ensures ∙ c.if-not-is_unguarded.false) (ap (option_map node_view) (sym c.in-None.is) ∙ c.node_above.ensures c.args.node.number)
