use Rattle.std.proofs.Common.{cond, Some, None, sym, ap, ◌∙◌}
use Rattle.std.specs.Prelude.{option_map}
use Rattle.yspec.specs.linking.Planned as spec
use Rattle.yschema_plan.specs.NodesView.{node_view}
use Rattle.yschema_types.proofs.meanings.leaf_found.Goals as goal

pub returns-then-is_typed : goal.returns-then-is_typed
returns-then-is_typed c =
    let node = c.in-Some.node in
    sym (ap (λ o. spec.leaf_found (option_map node_view o)) c.in-Some.is
    ∙ ap (λ b. cond b (Some (node_view node)) None) (sym (c.is_typed.ensures node.number) ∙ c.if-is_typed.true))

pub returns-else-is_typed : goal.returns-else-is_typed
returns-else-is_typed c =
    let node = c.in-Some.node in
    sym (ap (λ o. spec.leaf_found (option_map node_view o)) c.in-Some.is
    ∙ ap (λ b. cond b (Some (node_view node)) None) (sym (c.is_typed.ensures node.number) ∙ c.if-is_typed.false))
