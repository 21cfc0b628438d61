use Rattle.std.proofs.Common.{◌≡◌, ◌++◌, drop, map, string_bytes}
use Rattle.yschema_model.specs.Layout.{numbers_of}
use Rattle.yschema_model.specs.View.{view}
use Rattle.yinst_tree.specs.View.{row_view}
use Rattle.ysay_value.specs.TupleWords.{leaf_words}
use Rattle.ysay_value.proofs.tuples.leafs_said.Given as goal

-- what was said so far, and what is of the leafs that are left
abbrev pub invariant-loop-path : goal.invariant-loop-path
invariant-loop-path l = map string_bytes l.words.items ++ map (leaf_words (view l.schema) (row_view l.row)) (map (λ path. numbers_of path.items) (drop l.path-index l.paths))
    ≡ map (leaf_words (view l.schema) (row_view l.row)) (map (λ path. numbers_of path.items) l.paths)
