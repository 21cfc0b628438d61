use Rattle.std.proofs.Common.{◌≡◌, drop}
use Rattle.yschema_augment.specs.Settling.{Moves}
use Rattle.yschema_augment.specs.declared.search.Search.{Search}
use Rattle.yschema_augment.proofs.search.Search.settle.Given as goal

-- whatever comes of those that are left comes of all
abbrev pub invariant-loop-waiter : goal.invariant-loop-waiter
invariant-loop-waiter l = record {
  index : l.self.index ≡ l.fn.self.index;
  so_far : (final : Search) → Moves l.paths (drop l.waiter-index l.woken) l.self final → Moves l.paths l.woken l.fn.self final;
}
