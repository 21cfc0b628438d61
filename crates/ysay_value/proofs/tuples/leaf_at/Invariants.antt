use Rattle.std.proofs.Common.{◌≡◌, drop}
use Rattle.std.specs.Prelude.{option_map}
use Rattle.ytype.specs.View.{raw_of}
use Rattle.yschema_model.specs.Layout.{numbers_of}
use Rattle.yinst_tree.specs.View.{row_view}
use Rattle.ysay_value.specs.TupleWords.{leaf_at}
use Rattle.ysay_value.proofs.TupleLemmas.{or_leaf_at}
use Rattle.ysay_value.proofs.tuples.leaf_at.Given as goal

-- what the rest of the path leads to, or the leaf so far where nothing is left of it
abbrev pub invariant-loop-id : goal.invariant-loop-id
invariant-loop-id l = or_leaf_at (option_map (λ raw. raw_of raw.now) l.leaf) (row_view l.row) (numbers_of (drop l.id-index l.path))
    ≡ leaf_at (row_view l.fn.row) (numbers_of l.path)
