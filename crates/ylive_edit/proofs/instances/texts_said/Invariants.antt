use Rattle.std.proofs.Common.{◌≡◌, ◌++◌, map, drop}
use Rattle.std.specs.Prelude.{string_bytes}
use Rattle.yspec.specs.edit.Editing as spec
use Rattle.yschema_model.specs.Layout.{numbers_of}
use Rattle.yschema_model.specs.View as schema_view
use Rattle.yinst_path.specs.EditView.{keys_view}
use Rattle.ylive_edit.proofs.instances.texts_said.Given as goal

-- the texts so far with those of the schema nodes that are left
abbrev pub invariant-loop-id : goal.invariant-loop-id
invariant-loop-id l = record {
  texts : map string_bytes l.texts.items ++ map (spec.key_text (keys_view l.keys) (schema_view.view l.schema)) (numbers_of (drop l.id-index l.ids))
      ≡ map (spec.key_text (keys_view l.keys) (schema_view.view l.schema)) (numbers_of l.ids);
}
