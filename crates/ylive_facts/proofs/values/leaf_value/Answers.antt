use Rattle.std.proofs.Common.{ap, sym, ◌∙◌}
use Rattle.std.proofs.lemmas.Result.{IfOk-weaker}
use Rattle.yspec.specs.document.Instances.{leaf_value}
use Rattle.yschema_model.specs.View as schema_view
use Rattle.ystore.specs.Views.{store_of}
use Rattle.ylive_facts.proofs.RowLemmas.{leaf_found, none_found}
use Rattle.ylive_facts.proofs.values.leaf_value.Goals as goal

pub returns-in-Some-clause-value : goal.returns-in-Some-clause-value
returns-in-Some-clause-value c =
    IfOk-weaker c.value_as.result _ _ (λ value e f hangs.
    e ∙ sym (ap (leaf_value (schema_view.view c.args.schema.now) c.args.id.0)
    (leaf_found (store_of c.args.counted.now) (store_of c.first_of.new.counted) f c.args.id c.first_of.ensures.kept c.args.row c.first_of.result c.in-Some.leaf hangs
    c.first_of.ensures.first c.in-Some.is))) c.value_as.ensures.value

pub returns-in-None-clause-value : goal.returns-in-None-clause-value
returns-in-None-clause-value c =
    IfOk-weaker c.default_of.result _ _ (λ value e f hangs.
    e ∙ sym (ap (leaf_value (schema_view.view c.args.schema.now) c.args.id.0)
    (none_found (store_of c.args.counted.now) c.args.row f c.args.id c.first_of.result hangs c.first_of.ensures.first c.in-None.is).0)) c.default_of.ensures
