use Rattle.std.proofs.Common.{arith, ◌∙◌}
use Rattle.ystore.specs.Views.{store_of}
use Rattle.ystore_tree.proofs.RemoveLemmas.{removes_next}
use Rattle.ystore_tree.proofs.inserting.remove_nodes.Goals as goal

pub loop-id-preserved : goal.loop-id-preserved
loop-id-preserved c = (
  c.remove.ensures.same_reference ∙ c.loop-id.invariant.0,
  λ last rest. c.loop-id.invariant.1 last (removes_next c.args.numbers.now c.loop-id.id-index _ (store_of c.loop-id.counted) (store_of c.remove.new.self) last (omega arith) c.remove.ensures.store rest),
)
