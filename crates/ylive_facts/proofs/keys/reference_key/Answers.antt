use Rattle.std.proofs.Common.{◌∙◌}
use Rattle.std.proofs.lemmas.Result.{IfOk-weaker}
use Rattle.yschema_model.specs.Layout.{kind_view, leaf_type_view}
use Rattle.yschema_model.specs.View as schema_view
use Rattle.ystore.specs.Views.{store_of}
use Rattle.ylive_facts.specs.Rows.{leaf_at}
use Rattle.ylive_facts.proofs.ReferringLemmas.{asked_of, not_asked}
use Rattle.ylive_facts.proofs.keys.reference_key.Goals as goal

pub returns-in-Some-clause-key : goal.returns-in-Some-clause-key
returns-in-Some-clause-key c =
    let s = schema_view.view c.args.schema.now in
    let stored = leaf_at (store_of c.args.counted.now) c.args.of c.args.id in
    IfOk-weaker c.leaf_key.result _ _ (λ key so. so ∙ asked_of s (kind_view c.args.kind.now) stored (leaf_type_view c.in-Some.leaf_type.now) c.in-Some.ensures) c.leaf_key.ensures.key

pub returns-in-None-clause-key : goal.returns-in-None-clause-key
returns-in-None-clause-key c =
    not_asked (schema_view.view c.args.schema.now) (kind_view c.args.kind.now) (leaf_at (store_of c.args.counted.now) c.args.of c.args.id) c.in-None.ensures
