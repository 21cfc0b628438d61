use Rattle.std.proofs.Common.{◌-◌, ap, refl, ◌∙◌}
use Rattle.yinst_path.specs.Applying.{edit_number}
use Rattle.ystore.specs.Views.{store_of}
use Rattle.ystore_tree.specs.Hanging.{tree_of}
use Rattle.ylive_edit.specs.Instances.{instance_in, step_of}
use Rattle.ylive_edit.proofs.InstanceLemmas.{told_missing, found_in, stored_in, missing_in}
use Rattle.ylive_edit.proofs.instances.instance_at.Goals as goal

pub returns-in-Some-clause-meets : goal.returns-in-Some-clause-meets
returns-in-Some-clause-meets c f hangs =
    let old = store_of c.args.counted.now in
    let is = c.child_of.ensures.child in
    let same = c.saturating_sub-place.ensures ∙ ap (λ x. x - 1) c.unwrap_or.ensures in (
      step_of c.args.id.0 c.args.position,
      stored_in old c.args.above f c.args.id c.args.position c.saturating_sub-place.result c.child_of.result hangs is same (edit_number c.args.missing) c.in-Some.node c.in-Some.is,
      refl,
      found_in old c.args.above f c.args.id c.args.position c.saturating_sub-place.result c.child_of.result hangs is same c.in-Some.node c.in-Some.is,
    )

pub returns-in-None-clause-meets : goal.returns-in-None-clause-meets
returns-in-None-clause-meets c f hangs =
    told_missing c.args.missing c.refused.result (instance_in (edit_number c.args.missing) (tree_of f) c.args.id.0 c.args.position) c.refused.ensures
    (missing_in (store_of c.args.counted.now) c.args.above f c.args.id c.args.position c.saturating_sub-place.result c.child_of.result hangs c.child_of.ensures.child
    (c.saturating_sub-place.ensures ∙ ap (λ x. x - 1) c.unwrap_or.ensures) (edit_number c.args.missing) c.in-None.is)
