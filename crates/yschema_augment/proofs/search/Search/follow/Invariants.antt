use Rattle.std.proofs.Common.{◌≡◌, ◌-◌, Some, None, take, length}
use Rattle.yschema_augment.specs.Searching.{reached}
use Rattle.yschema_augment.specs.SearchView.{look_in, names_in, path_at}
use Rattle.yschema_augment.proofs.search.Search.follow.Given as goal

-- the steps so far lead to the node
abbrev pub invariant-loop-step : goal.invariant-loop-step
invariant-loop-step l = record {
  same : l.self ≡ l.fn.self;
  path : l.path.items ≡ path_at l.paths l.waiter.augment;
  so_far : reached (look_in l.fn.self) None (take l.found (names_in l.fn.self (path_at l.paths l.waiter.augment))) ≡ Some l.above;
}

abbrev pub decreases-loop-step : goal.decreases-loop-step
decreases-loop-step l = length l.path.items - l.found
