use Rattle.std.proofs.Common.{◌≡◌, ◌++◌, drop}
use Rattle.yschema_expand.proofs.nodes.ExpandedNode.copied.Given as goal

-- those that are copied, and those that are left
abbrev pub invariant-loop-one : goal.invariant-loop-one
invariant-loop-one l = l.given.items ++ drop l.one-index l.one-items ≡ l.one-items
