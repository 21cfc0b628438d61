use Rattle.std.proofs.Common.{◌≡◌, drop, string_bytes}
use Rattle.yschema_model.specs.Layout.{numbers_of}
use Rattle.yschema_model.specs.View.{view}
use Rattle.yinst_tree.specs.View.{row_view}
use Rattle.ysay_place.specs.KeyedPath.{all_predicates}
use Rattle.ysay_place.proofs.PredicateLemmas.{behind}
use Rattle.ysay_place.proofs.path.all_predicates.Given as goal

-- the text so far, and the predicates of the keys that are left
abbrev pub invariant-loop-key : goal.invariant-loop-key
invariant-loop-key l = behind (view l.schema) (row_view l.row) (string_bytes l.text) (numbers_of (drop l.key-index l.keys))
    ≡ all_predicates (view l.schema) (row_view l.row) (numbers_of l.keys)
