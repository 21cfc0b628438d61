use Rattle.std.proofs.Common.{ℕ, ◌<◌, List, length, map, ap, sym, subst, ◌∙◌}
use Rattle.yspec.specs.schema.Schema.{keys_in}
use Rattle.yspec.specs.edit.Editing.{key_text, fits_keys}
use Rattle.yschema_model.specs.View as schema_view
use Rattle.yinst_path.specs.Binding.{node_of}
use Rattle.yinst_path.specs.EditView.{keys_view}
use Rattle.ystore.specs.Views.{store_of}
use Rattle.ylive_facts.specs.Keys.{texts_key}
use Rattle.ylive_edit.proofs.LocatingLemmas.{hangs_at}
use Rattle.ylive_edit.proofs.TextLemmas.{some_keys, no_keys}
use Rattle.ylive_edit.proofs.instances.entry_meant.Goals as goal

pub returns-then-is_empty-clause-meets : goal.returns-then-is_empty-clause-meets
returns-then-is_empty-clause-meets c tree steps f at =
    let s = schema_view.view c.args.schema.now in
    let keys = keys_view c.args.keys.now in
    c.only_entry.ensures.meets (fits_keys s (keys_in (node_of s c.args.id.0).kind) keys) f
    (hangs_at s (store_of c.args.counted.now) tree steps c.args.above f at)
    (λ below. ap (λ ns. fits_keys s ns keys below) (sym c.keys_of-ids.ensures ∙ no_keys c.keys_of-ids.result.now c.if-is_empty.ensures))

pub returns-in_ok-texts-clause-meets : goal.returns-in_ok-texts-clause-meets
returns-in_ok-texts-clause-meets c tree steps f at =
    let s = schema_view.view c.args.schema.now in
    let keys = keys_view c.args.keys.now in
    c.entry_held.ensures.meets s tree steps f keys at
    (subst (λ (ks : List ℕ). 0 < length ks) c.keys_of-ids.ensures (some_keys c.keys_of-ids.result.now c.if-is_empty.ensures))
    (ap (texts_key c.args.above c.args.id.0) (c.in_ok-texts.ensures ∙ ap (map (key_text keys s)) c.keys_of-ids.ensures))
