use Rattle.std.specs.Borrow.{Bor}
use Rattle.yinst_tree.specs.View.{row_view, view}
use Rattle.yinst_tree.specs.declared.tree.Stored as code
use Rattle.ysay_place.proofs.PlaceLemmas.{first_seen}
use Rattle.ysay_place.proofs.path.stored_leaf.Goals as goal

pub returns : goal.returns
returns c = first_seen (λ (s : Bor code.Stored). view s.now) c.nth_instance.result c.args.id.0 (row_view c.args.row.now) c.nth_instance.ensures
