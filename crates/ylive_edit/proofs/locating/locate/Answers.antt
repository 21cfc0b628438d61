use Rattle.std.proofs.Common.{[], subst}
use Rattle.yschema_model.specs.View as schema_view
use Rattle.yspec.specs.edit.Editing as spec
use Rattle.yinst_path.specs.Binding.{steps_view}
use Rattle.ystore.specs.Views.{store_of}
use Rattle.ylive_edit.specs.Locating.{Locates}
use Rattle.ylive_edit.proofs.LocatingLemmas.{at_start}
use Rattle.ylive_edit.proofs.locating.locate.Goals as goal

pub returns-clause-place : goal.returns-clause-place
returns-clause-place c = λ tree holds sorted.
    let s = schema_view.view c.args.schema.now in
    subst (λ t. Locates s tree [] (spec.target s t (steps_view s c.args.steps.now)) (store_of c.locate_below.new.counted) c.locate_below.result) holds.is_tree
    (c.locate_below.ensures.place tree [] holds.branches (at_start s (store_of c.args.counted.now) tree holds sorted))
