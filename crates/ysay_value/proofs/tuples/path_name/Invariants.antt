use Rattle.std.proofs.Common.{◌≡◌, ◌++◌, drop, map, string_bytes}
use Rattle.yschema_model.specs.Layout.{numbers_of}
use Rattle.yschema_model.specs.View.{view}
use Rattle.ysay_place.specs.KeyedPath.{name_of}
use Rattle.ysay_value.proofs.tuples.path_name.Given as goal

-- the names so far, and those of the nodes that are left
abbrev pub invariant-loop-id : goal.invariant-loop-id
invariant-loop-id l = map string_bytes l.names.items ++ map (name_of (view l.schema)) (numbers_of (drop l.id-index l.path))
    ≡ map (name_of (view l.schema)) (numbers_of l.path)
