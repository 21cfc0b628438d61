use Rattle.std.proofs.Common.{[], refl, rules}
use Rattle.serde_json.specs.Errors.{IsMemory}
use Rattle.serde_json.specs.View as json
use Rattle.yschema_model.specs.View as schema_view
use Rattle.yinst_tree.specs.View.{tree_view}
use Rattle.yspec.proofs.DocumentProofs.JsonLemmas.{json_found, no_json}
use Rattle.yschema_model.proofs.CallerLemmas.{numbered, names_differ, leafs_are_bare}
use Rattle.yinst_tree.proofs.ReadLemmas.{of_json, of_none, fails_by, gives_same, fits_if_read, whole_if_read, within_if_read}
use Rattle.yinst_tree.proofs.reading.read.Goals as goal

pub returns-in-Ok-clause-answer : goal.returns-in-Ok-clause-answer
returns-in-Ok-clause-answer c =
    let s = schema_view.view c.args.schema.now in
    gives_same tree_view c.tree_of.result _ _
    (of_json s c.args.bytes.now (json.view c.in-Ok.value) (json_found c.args.bytes.now (json.view c.in-Ok.value) c.in-Ok.ensures.ok.0 c.in-Ok.ensures.ok.1)) c.tree_of.ensures

pub returns-in-Err-2-clause-answer : goal.returns-in-Err-2-clause-answer
returns-in-Err-2-clause-answer c =
    let is_refused : IsMemory c.in-Err.error → ⊥ = search rules in
    fails_by c.refused_at_root.result _ (record { code = 1; place = [] }) _ c.refused_at_root.ensures refl
    (of_none (schema_view.view c.args.schema.now) c.args.bytes.now (no_json c.args.bytes.now (c.in-Err.ensures.err is_refused)))

pub returns-in-Ok-clause-fitting : goal.returns-in-Ok-clause-fitting
returns-in-Ok-clause-fitting c =
    fits_if_read c.tree_of.result (schema_view.view c.args.schema.now) c.args.bytes.now (numbered c.args.schema.now) (returns-in-Ok-clause-answer c)

pub returns-in-Ok-clause-whole : goal.returns-in-Ok-clause-whole
returns-in-Ok-clause-whole c =
    whole_if_read c.tree_of.result (schema_view.view c.args.schema.now) c.args.bytes.now (numbered c.args.schema.now) (names_differ c.args.schema.now) (leafs_are_bare c.args.schema.now) (returns-in-Ok-clause-answer c)

pub returns-in-Ok-clause-within : goal.returns-in-Ok-clause-within
returns-in-Ok-clause-within c =
    within_if_read c.tree_of.result (schema_view.view c.args.schema.now) c.args.bytes.now (names_differ c.args.schema.now) (leafs_are_bare c.args.schema.now) (returns-in-Ok-clause-answer c)
