use Rattle.ystore_rows.specs.Children.{nodes_of}
use Rattle.ystore_rows.proofs.RowLemmas.{ascends_remove}
use Rattle.ystore_rows.proofs.children.Children.take_at.Goals as goal

pub invariant_of-self : goal.invariant_of-self
invariant_of-self c =
    record { ascending = rw c.remove.ensures.row (ascends_remove (nodes_of c.args.self.now) c.place_at-place.result c.args.self.now.ascending) }
