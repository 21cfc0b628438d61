use Rattle.std.proofs.Common.{None, ap, ◌∙◌}
use Rattle.std.specs.Prelude.{slice_get, unwrap_or}
use Rattle.yschema_model.specs.Layout.{targets_view}
use Rattle.yschema_model.proofs.LeafTypeLemmas.{member_seen, member_unseen}
use Rattle.yschema_model.proofs.node.LeafType.member_target.Goals as goal

pub returns-in-Some : goal.returns-in-Some
returns-in-Some c =
    member_seen c.args.self.now.targets.items c.args.value.now c.in-Some.number _ c.in-Some.ensures
    (c.found.ensures ∙ ap (λ ts. unwrap_or (slice_get (targets_view ts) c.in-Some.number) None) c.deref.ensures.value)

pub returns-in-None : goal.returns-in-None
returns-in-None c = member_unseen c.args.self.now.targets.items c.args.value.now c.in-None.ensures
