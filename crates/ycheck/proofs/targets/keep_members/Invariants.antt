use Rattle.std.proofs.Common.{take}
use Rattle.yschema_model.specs.Layout.{targets_view}
use Rattle.ycheck.specs.Targets.{required_by_members, HoldsSame, KeepsMore}
use Rattle.ycheck.proofs.targets.keep_members.Given as goal

-- those of the members so far
abbrev pub invariant-loop-members : goal.invariant-loop-members
invariant-loop-members l = record {
  kept : KeepsMore l.fn.targets l.targets (required_by_members (targets_view (take l.members-index l.all)));
  held : HoldsSame l.fn.targets l.targets;
}
