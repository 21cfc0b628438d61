use Rattle.std.proofs.Common.{◌≡◌, drop, map, List, Option}
use Rattle.yspec.specs.document.Instances.{Tuple, tuple_at, own_path}
use Rattle.yschema_model.specs.Layout.{numbers_of}
use Rattle.yschema_model.specs.declared.node.SchemaId.{SchemaId}
use Rattle.yschema_model.specs.View as schema_view
use Rattle.yinst_tree.specs.View as document_view
use Rattle.ycheck.proofs.ValueLemmas.{with_front}
use Rattle.ycheck.proofs.repeated.key_of.Given as goal

-- the values so far with those of the leafs that are left
abbrev pub invariant-loop-key : goal.invariant-loop-key
invariant-loop-key l =
    let all : List SchemaId → Option Tuple = λ ids. tuple_at (schema_view.view l.schema) (document_view.row_view l.row) (map own_path (numbers_of ids)) in
    with_front l.values.items (all (drop l.key-index l.keys)) ≡ all l.keys
