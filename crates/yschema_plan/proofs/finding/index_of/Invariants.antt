use Rattle.std.proofs.Common.{◌≡◌, ℕ, Option, map, take}
use Rattle.std.specs.Prelude.{find, option_map}
use Rattle.yspec.specs.text.Text.{Text}
use Rattle.yspec.specs.linking.SchemaNodes.{number_in}
use Rattle.ybase_preorder.specs.Layout.{labels_by}
use Rattle.ybase_preorder.specs.View.{slots_in}
use Rattle.ybase_index.specs.Index.{found, texts_of}
use Rattle.ybase_index.specs.declared.keys.Among.{Among}
use Rattle.yschema_plan.specs.PlannedView.{planned_view}
use Rattle.yschema_plan.specs.Finding.{is_found, list_of, name_of}
use Rattle.yschema_plan.proofs.finding.index_of.Given as goal

abbrev pub invariant-loop-number : goal.invariant-loop-number
invariant-loop-number l = record {
  texts : texts_of l.index ≡ map name_of (list_of l.table);
  nodes : (among : Among) (above : Option ℕ) (m : ℕ) (t : Text) → found l.index among above m t
      ≡ option_map number_in (find (is_found among above m t) (labels_by planned_view 0 (take l.number (slots_in l.table))));
}
