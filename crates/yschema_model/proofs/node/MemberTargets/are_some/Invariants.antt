use Rattle.std.proofs.Common.{◌≡◌, drop}
use Rattle.yspec.specs.schema.References.{has_leafrefs}
use Rattle.yschema_model.specs.Layout.{targets_view}
use Rattle.yschema_model.proofs.node.MemberTargets.are_some.Given as goal

-- none of those so far
abbrev pub invariant-loop-members : goal.invariant-loop-members
invariant-loop-members l = has_leafrefs (targets_view (drop l.members-index l.all)) ≡ has_leafrefs (targets_view l.all)
