use Rattle.std.proofs.Common.{ap, ◌∙◌, sym}
use Rattle.yspec.specs.document.Document.{instances_in}
use Rattle.yschema_model.specs.View as schema_view
use Rattle.ystore.specs.Views.{store_of}
use Rattle.ystore_tree.specs.Hanging.{tree_of}
use Rattle.ystore_tree.proofs.FoundLemmas.{counted_at}
use Rattle.yinst.proofs.LocatingLemmas.{number_is}
use Rattle.ylive_edit.proofs.AmendLemmas.{there_is}
use Rattle.ylive_edit.proofs.amending.is_there.Goals as goal

pub returns-then-not-is_many-clause-there : goal.returns-then-not-is_many-clause-there
returns-then-not-is_many-clause-there c = λ above f here.
    let s = schema_view.view c.args.schema.now in
    let id = c.args.place.last.id in
    there_is c.is_many.result _ c.count_of-count.result (instances_in (tree_of f) _) c.if-not-is_many.true c.is_many.ensures
    (c.count_of-count.ensures.count ∙ (counted_at (store_of c.args.counted.now) c.args.place.above f id here
    ∙ ap (instances_in (tree_of f)) (sym (number_is s id.0))))
