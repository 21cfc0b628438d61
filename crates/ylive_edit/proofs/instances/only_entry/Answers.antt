use Rattle.std.proofs.Common.{sym, subst, arith}
use Rattle.yspec.specs.edit.Editing.{the_one, positions_where}
use Rattle.yinst_path.specs.Applying.{edit_number}
use Rattle.yinst_path.specs.declared.edit.EditCode.TheVariants.{E6}
use Rattle.ystore.specs.Views.{store_of}
use Rattle.ystore_tree.specs.Hanging.{tree_of}
use Rattle.ystore_tree.proofs.FoundLemmas.{counted_at}
use Rattle.ystore_tree.proofs.PartLemmas.{one_read}
use Rattle.ylive_edit.specs.Instances.{Meets}
use Rattle.ylive_edit.proofs.InstanceLemmas.{told_missing, any_of_several, only_entry}
use Rattle.ylive_edit.proofs.LocatingLemmas.{hangs_read}
use Rattle.ylive_edit.proofs.instances.only_entry.Goals as goal

pub returns-then-count_of-gt1-clause-meets : goal.returns-then-count_of-gt1-clause-meets
returns-then-count_of-gt1-clause-meets c test f hangs always =
    let missing = edit_number c.args.missing in
    let number = c.args.id.0 in
    let stored = counted_at (store_of c.args.counted.now) c.args.above f c.args.id hangs in
    let count = c.count_of.ensures.count in
    let more = c.if-count_of-gt1.true in
    told_missing E6 c.refused.result (the_one missing number (positions_where number test 1 (tree_of f))) c.refused.ensures
    (any_of_several missing number test always (tree_of f) (omega (arith, stored, count, more)))

pub returns-clause-meets : goal.returns-clause-meets
returns-clause-meets c test f hangs always =
    let missing = edit_number c.args.missing in
    let number = c.args.id.0 in
    let old = store_of c.args.counted.now in
    let mid = store_of c.count_of.new.self in
    let stored = counted_at old c.args.above f c.args.id hangs in
    let count = c.count_of.ensures.count in
    let few = c.if-count_of-gt1.false in
    subst (λ a. Meets c.args.id f a c.instance_at.result) (sym (only_entry missing number test always (tree_of f) (omega (arith, stored, count, few))))
    (c.instance_at.ensures.meets f (hangs_read old mid c.args.above f (one_read old mid c.count_of.ensures.counted.store) hangs))
