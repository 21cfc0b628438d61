use Rattle.std.proofs.Common.{ap, sym, Some, ◌∙◌}
use Rattle.std.specs.Prelude.{option_and_then}
use Rattle.std.proofs.lemmas.Result.{IfOk-weaker}
use Rattle.yspec.specs.edit.Editing.{text_of}
use Rattle.yschema_model.specs.View as schema_view
use Rattle.ystore.specs.Views.{store_of}
use Rattle.ylive_facts.proofs.RowLemmas.{leaf_found, none_found}
use Rattle.ylive_facts.proofs.texts.leaf_text.Goals as goal

pub returns-in-Some-clause-text : goal.returns-in-Some-clause-text
returns-in-Some-clause-text c =
    IfOk-weaker c.text_as.result _ _ (λ text e f hangs.
    e ∙ sym (ap (option_and_then (text_of (schema_view.view c.args.schema.now)))
    (leaf_found (store_of c.args.counted.now) (store_of c.first_of.new.counted) f c.args.id c.first_of.ensures.kept (Some c.args.row) c.first_of.result c.in-Some.leaf hangs
    c.first_of.ensures.first c.in-Some.is))) c.text_as.ensures.text

pub returns-in-None-clause-text : goal.returns-in-None-clause-text
returns-in-None-clause-text c f hangs =
    sym (ap (option_and_then (text_of (schema_view.view c.args.schema.now)))
    (none_found (store_of c.args.counted.now) (Some c.args.row) f c.args.id c.first_of.result hangs c.first_of.ensures.first c.in-None.is).0)
