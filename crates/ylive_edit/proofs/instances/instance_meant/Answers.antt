use Rattle.std.proofs.Common.{◌∙◌, sym, ap, subst}
use Rattle.yinst_path.specs.EditView.{predicate_view, keys_view}
use Rattle.yspec.specs.edit.Editing.{is_zero}
use Rattle.yschema_model.specs.View as schema_view
use Rattle.yspec.specs.edit.EditText.{with_keys}
use Rattle.yinst_path.specs.Applying.{edit_number}
use Rattle.yinst_path.specs.declared.edit.Predicate.TheVariants.{Unsaid, Position, Keys}
use Rattle.ystore.specs.Views.{store_of}
use Rattle.ystore_tree.specs.Hanging.{tree_of}
use Rattle.yinst.specs.Locating.{meant_in}
use Rattle.ylive_edit.specs.Instances.{Meets}
use Rattle.ylive_edit.proofs.InstanceLemmas.{as_meant, position_is}
use Rattle.ylive_edit.proofs.LocatingLemmas.{hangs_at}
use Rattle.ylive_edit.proofs.instances.instance_meant.Goals as goal

pub returns-in-Unsaid-clause-meets : goal.returns-in-Unsaid-clause-meets
returns-in-Unsaid-clause-meets c tree steps f at =
    let s = schema_view.view c.args.schema.now in
    as_meant s (edit_number c.args.missing) f c.args.step.id c.args.step.predicate.now Unsaid c.instance_at.result
    c.in-Unsaid.is (c.instance_at.ensures.meets f (hangs_at s (store_of c.args.counted.now) tree steps c.args.above f at))

pub returns-in-Position-clause-meets : goal.returns-in-Position-clause-meets
returns-in-Position-clause-meets c tree steps f at =
    let s = schema_view.view c.args.schema.now in
    let missing = edit_number c.args.missing in
    let id = c.args.step.id in
    let p = c.in-Position.position in
    as_meant s missing f id c.args.step.predicate.now (Position p) c.instance_at-in-Position.result c.in-Position.is
    (subst (λ a. Meets id f a c.instance_at-in-Position.result)
    (sym (position_is s missing (tree_of f) id.0 p (sym (ap (λ x. is_zero (predicate_view x)) c.in-Position.is) ∙ c.requires)))
    (c.instance_at-in-Position.ensures.meets f (hangs_at s (store_of c.args.counted.now) tree steps c.args.above f at)))

pub returns-in-Keys-clause-meets : goal.returns-in-Keys-clause-meets
returns-in-Keys-clause-meets c tree steps f at =
    let s = schema_view.view c.args.schema.now in
    let missing = edit_number c.args.missing in
    let id = c.args.step.id in
    as_meant s missing f id c.args.step.predicate.now (Keys c.in-Keys.keys) c.entry_meant.result c.in-Keys.is
    (subst (λ keys. Meets id f (meant_in s missing (tree_of f) id.0 (with_keys (keys_view keys))) c.entry_meant.result) c.as_slice.ensures.value
    (c.entry_meant.ensures.meets tree steps f at))
