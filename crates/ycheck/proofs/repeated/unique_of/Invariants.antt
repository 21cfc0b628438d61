use Rattle.std.proofs.Common.{◌≡◌, drop, map, List, Option}
use Rattle.std.specs.Global.{Global}
use Rattle.std.proofs.Common.{Vec}
use Rattle.yspec.specs.document.Instances.{Tuple, tuple_at}
use Rattle.yschema_model.specs.Layout.{numbers_of}
use Rattle.yschema_model.specs.declared.node.SchemaId.{SchemaId}
use Rattle.yschema_model.specs.View as schema_view
use Rattle.yinst_tree.specs.View as document_view
use Rattle.ycheck.proofs.ValueLemmas.{with_front}
use Rattle.ycheck.proofs.repeated.unique_of.Given as goal

-- the values so far with those of the leafs that are left
abbrev pub invariant-loop-path : goal.invariant-loop-path
invariant-loop-path l =
    let all : List (Vec SchemaId Global) → Option Tuple = λ paths. tuple_at (schema_view.view l.schema) (document_view.row_view l.row) (map (λ path. numbers_of path.items) paths) in
    with_front l.values.items (all (drop l.path-index l.paths)) ≡ all l.paths
