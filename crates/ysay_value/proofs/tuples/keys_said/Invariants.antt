use Rattle.std.proofs.Common.{◌≡◌, ◌++◌, drop, map, string_bytes}
use Rattle.yschema_model.specs.Layout.{numbers_of}
use Rattle.yschema_model.specs.View.{view}
use Rattle.yinst_tree.specs.View.{row_view}
use Rattle.ysay_value.specs.TupleWords.{key_words}
use Rattle.ysay_value.proofs.tuples.keys_said.Given as goal

-- what was said so far, and what is of the keys that are left
abbrev pub invariant-loop-key : goal.invariant-loop-key
invariant-loop-key l = map string_bytes l.words.items ++ map (key_words (view l.schema) (row_view l.row)) (numbers_of (drop l.key-index l.keys))
    ≡ map (key_words (view l.schema) (row_view l.row)) (numbers_of l.keys)
