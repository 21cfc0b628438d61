use Rattle.std.proofs.Common.{subst}
use Rattle.ystore.specs.Views.{store_of}
use Rattle.ystore_tree.specs.Swaps.{Swaps}
use Rattle.ystore_tree.specs.declared.swapping.Change.{Change}
use Rattle.ystore_tree.specs.declared.swapping.Change.TheVariants.{Add, Put, Take, Move}
use Rattle.ystore_tree.proofs.SwapLemmas.{made}
use Rattle.ystore_tree.proofs.swapping.Swap.make.Goals as goal

pub returns-in-Add-clause-tree : goal.returns-in-Add-clause-tree
returns-in-Add-clause-tree c way f loose g left at swaps keeps =
    made c.args.self.above way at (store_of c.args.counted.now) (store_of c.add_child.new.self) f loose g left c.args.self.schema (Add c.in-Add.new) (subst (λ (h : Change). Swaps c.args.self.schema h f loose g left) c.in-Add.is swaps) keeps c.add_child.ensures.store

pub returns-in-Put-clause-tree : goal.returns-in-Put-clause-tree
returns-in-Put-clause-tree c way f loose g left at swaps keeps =
    made c.args.self.above way at (store_of c.args.counted.now) (store_of c.put_child.new.self) f loose g left c.args.self.schema (Put c.in-Put.old c.in-Put.new) (subst (λ (h : Change). Swaps c.args.self.schema h f loose g left) c.in-Put.is swaps) keeps c.put_child.ensures.store

pub returns-in-Take-clause-tree : goal.returns-in-Take-clause-tree
returns-in-Take-clause-tree c way f loose g left at swaps keeps =
    made c.args.self.above way at (store_of c.args.counted.now) (store_of c.take_child_at.new.self) f loose g left c.args.self.schema (Take c.in-Take.old c.in-Take.place) (subst (λ (h : Change). Swaps c.args.self.schema h f loose g left) c.in-Take.is swaps) keeps c.take_child_at.ensures.store

pub returns-in-Move-clause-tree : goal.returns-in-Move-clause-tree
returns-in-Move-clause-tree c way f loose g left at swaps keeps =
    made c.args.self.above way at (store_of c.args.counted.now) (store_of c.move_child_at.new.self) f loose g left c.args.self.schema (Move c.in-Move.node c.in-Move.from c.in-Move.to) (subst (λ (h : Change). Swaps c.args.self.schema h f loose g left) c.in-Move.is swaps) keeps c.move_child_at.ensures.store
