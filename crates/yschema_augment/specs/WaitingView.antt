-- Augments that lack a step of their path, by the child that they lack.
use Rattle.std.specs.Prelude.{List, []}
use Rattle.std.specs.Option.{option_map_or}
use Rattle.indexmap.specs.IndexMap.{get}
use Rattle.ybase_index.specs.Keys.{same_key}
use Rattle.ybase_index.specs.declared.keys.Key.{Key}
use Rattle.yschema_augment.specs.declared.waiting.Waiter.{Waiter}
use Rattle.yschema_augment.specs.declared.waiting.Waiting.{Waiting}

abbrev pub waiters_at : Waiting → Key → List Waiter
waiters_at w key = option_map_or (λ v. v.items) (get same_key w.by_child key) []
