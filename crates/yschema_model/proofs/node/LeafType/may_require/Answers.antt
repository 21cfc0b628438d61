use Rattle.std.proofs.Common.{true, false, None, Some, refl, sym, ap, ◌∙◌}
use Rattle.yspec.specs.schema.References.{requires_instance, has_leafrefs}
use Rattle.yschema_model.specs.Layout.{targets_view}
use Rattle.yschema_model.proofs.LeafTypeLemmas.{required_by}
use Rattle.yschema_model.proofs.node.LeafType.may_require.Goals as goal

pub returns-then-are_some : goal.returns-then-are_some
returns-then-are_some c =
    let type = c.args.self.now in
    required_by type true type.target (requires_instance type.value_type)
    (sym c.if-are_some.true ∙ (c.are_some.ensures ∙ ap (λ ts. has_leafrefs (targets_view ts)) c.deref.ensures.value)) refl refl

pub returns-in-Some : goal.returns-in-Some
returns-in-Some c =
    required_by c.args.self.now false (Some _) c.requires_instance.result
    (sym c.if-are_some.false ∙ (c.are_some.ensures ∙ ap (λ ts. has_leafrefs (targets_view ts)) c.deref.ensures.value)) c.in-Some.is c.requires_instance.ensures

pub returns-in-None : goal.returns-in-None
returns-in-None c =
    let type = c.args.self.now in
    required_by type false None (requires_instance type.value_type)
    (sym c.if-are_some.false ∙ (c.are_some.ensures ∙ ap (λ ts. has_leafrefs (targets_view ts)) c.deref.ensures.value)) c.in-None.is refl
