use Rattle.std.proofs.Common.{◌≡◌, ◌||◌, drop}
use Rattle.std.specs.List.{list_any}
use Rattle.yspec.specs.types.Order.{same_value}
use Rattle.yschema_resolve.specs.Values.{comes_twice}
use Rattle.yschema_resolve.proofs.DefaultLemmas.{holds_value}
use Rattle.yschema_resolve.proofs.defaults.comes_twice.Given as goal

-- a value comes twice where one that is left was seen, or comes twice among those that are left
abbrev pub invariant-loop-value : goal.invariant-loop-value
invariant-loop-value l = (list_any (holds_value l.seen) (drop l.value-index l.values) || comes_twice same_value (drop l.value-index l.values)) ≡ comes_twice same_value l.values
