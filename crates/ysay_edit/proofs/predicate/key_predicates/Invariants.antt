use Rattle.std.proofs.Common.{◌≡◌, ◌++◌, drop, string_bytes}
use Rattle.std.specs.List.{flat_map}
use Rattle.yschema_model.specs.Layout.{numbers_of}
use Rattle.yschema_model.specs.View.{view}
use Rattle.ysay_edit.specs.Predicate.{key_due}
use Rattle.ysay_edit.proofs.predicate.key_predicates.Given as goal

abbrev pub invariant-loop-key : goal.invariant-loop-key
invariant-loop-key l = string_bytes l.text ++ flat_map (key_due (view l.schema)) (numbers_of (drop l.key-index l.keys))
    ≡ flat_map (key_due (view l.schema)) (numbers_of l.keys)
