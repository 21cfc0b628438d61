use Rattle.std.proofs.Common.{◌≡◌, ◌++◌, drop, map, string_bytes}
use Rattle.yspec.specs.schema.Schema.{written_name}
use Rattle.yschema_model.specs.View.{label_of, view}
use Rattle.ysay_refusal.proofs.member.written_names.Given as goal

abbrev pub invariant-loop-child : goal.invariant-loop-child
invariant-loop-child l = map string_bytes l.names.items ++ map (written_name (view l.schema) l.parent_module) (map label_of (drop l.child-index l.nodes))
    ≡ map (written_name (view l.schema) l.parent_module) (map label_of l.nodes)
